-- No two jobs of a case have one site.
use Rattle.std.proofs.Common.{◌≡◌, ℕ, zero, suc, ◌+◌, ◌<◌, ◌≤◌, Bool, true, false, cond, List, [], ◌∷◌, ◌++◌, map, Some, refl, sym, ◌∙◌, ap, subst, arith}
use Rattle.std.specs.Prelude.{filter, flat_map, slice_get}
use Rattle.std.specs.List.{range_with_len}
use Rattle.fs_model.specs.declared.sites.Site.{Site}
use Rattle.fs_model.specs.declared.sites.Job.{Job}
use Rattle.fs_model.specs.Case.{CaseData}
use Rattle.fs_model.specs.Cell.{first_cell, bits}
use Rattle.fs_model.specs.Site.{cell_sites, cycle_sites, cells, sites}
use Rattle.fs_model.specs.AccessLog.{AccessLog, all_sites, jobs, log, is_read}
use Rattle.fs_model.specs.Job.{site_of, with_weight, job_list, jobs_in}
use Rattle.result_keeper.specs.Boards.{IsOnce}

Each : (Site → Type 0) → List Site → Type 0
Each P [] = Unit {0}
Each P (x ∷ xs) = P x × Each P xs

NotIn : Site → List Site → Type 0
NotIn x [] = Unit {0}
NotIn x (y ∷ ys) = (x ≡ y → ⊥) × NotIn x ys

Apart : List Site → Type 0
Apart [] = Unit {0}
Apart (x ∷ xs) = NotIn x xs × Apart xs

Each-append : (P : Site → Type 0) (a b : List Site) → Each P a → Each P b → Each P (a ++ b)
unfolding Each
Each-append P [] b p q = q
Each-append P (x ∷ a) b p q = (p.0, Each-append P a b p.1 q)

Each-weaker : (P Q : Site → Type 0) (a : List Site) → ((x : Site) → P x → Q x) → Each P a → Each Q a
unfolding Each
Each-weaker P Q [] imp p = tt
Each-weaker P Q (x ∷ a) imp p = (imp x p.0, Each-weaker P Q a imp p.1)

NotIn-append : (x : Site) (a b : List Site) → NotIn x a → NotIn x b → NotIn x (a ++ b)
unfolding NotIn
NotIn-append x [] b p q = q
NotIn-append x (y ∷ a) b p q = (p.0, NotIn-append x a b p.1 q)

Apart-append : (a b : List Site) → Apart a → Apart b → Each (λ x. NotIn x b) a → Apart (a ++ b)
unfolding Apart Each
Apart-append [] b p q r = q
Apart-append (x ∷ a) b p q r = (NotIn-append x a b p.0 r.0, Apart-append a b p.1 q r.1)

not_above : (key : Site → ℕ) (x : Site) (low : ℕ) (ys : List Site) → key x < low → Each (λ y. low ≤ key y) ys → NotIn x ys
unfolding Each NotIn
not_above key x low [] lt up = tt
not_above key x low (y ∷ ys) lt up =
    let le : low ≤ key y = up.0 in
    ((λ e. let k : key x ≡ key y = ap key e in absurd (omega (arith, k, le, lt))), not_above key x low ys lt up.1)

-- lists for ascending keys, one after the other
module _ (key : Site → ℕ) (f : ℕ → List Site) (has_key : (k : ℕ) → Each (λ s. key s ≡ k) (f k)) where
  keys_above : (a n : ℕ) → Each (λ s. a ≤ key s) (flat_map f (range_with_len a n))
  unfolding Each
  keys_above a zero = tt
  keys_above a (suc n) =
      Each-append (λ s. a ≤ key s) (f a) (flat_map f (range_with_len (a + 1) n))
      (Each-weaker (λ s. key s ≡ a) (λ s. a ≤ key s) (f a) (λ s is. omega (arith, is)) (has_key a))
      (Each-weaker (λ s. a + 1 ≤ key s) (λ s. a ≤ key s) (flat_map f (range_with_len (a + 1) n)) (λ s le. omega (arith, le)) (keys_above (a + 1) n))

  keyed_apart : ((k : ℕ) → Apart (f k)) → (a n : ℕ) → Apart (flat_map f (range_with_len a n))
  unfolding Apart
  keyed_apart each a zero = tt
  keyed_apart each a (suc n) =
      let rest = flat_map f (range_with_len (a + 1) n) in
      Apart-append (f a) rest (each a) (keyed_apart each (a + 1) n)
      (Each-weaker (λ s. key s ≡ a) (λ s. NotIn s rest) (f a) (λ s is. not_above key s (a + 1) rest (omega (arith, is)) (keys_above (a + 1) n)) (has_key a))

Each-flat_map : (P : Site → Type 0) (f : ℕ → List Site) (xs : List ℕ) → ((x : ℕ) → Each P (f x)) → Each P (flat_map f xs)
unfolding Each
Each-flat_map P f [] each = tt
Each-flat_map P f (x ∷ xs) each = Each-append P (f x) (flat_map f xs) (each x) (Each-flat_map P f xs each)

Each-map : (P : Site → Type 0) (g : ℕ → Site) (xs : List ℕ) → ((x : ℕ) → P (g x)) → Each P (map g xs)
unfolding Each
Each-map P g [] each = tt
Each-map P g (x ∷ xs) each = (each x, Each-map P g xs each)

mapped_above : (key : Site → ℕ) (g : ℕ → Site) → ((k : ℕ) → key (g k) ≡ k) → (a n : ℕ) → Each (λ s. a ≤ key s) (map g (range_with_len a n))
unfolding Each
mapped_above key g is a zero = tt
mapped_above key g is a (suc n) =
    ((let e : key (g a) ≡ a = is a in omega (arith, e)), Each-weaker (λ s. a + 1 ≤ key s) (λ s. a ≤ key s) (map g (range_with_len (a + 1) n)) (λ s le. omega (arith, le)) (mapped_above key g is (a + 1) n))

mapped_apart : (key : Site → ℕ) (g : ℕ → Site) → ((k : ℕ) → key (g k) ≡ k) → (a n : ℕ) → Apart (map g (range_with_len a n))
unfolding Apart
mapped_apart key g is a zero = tt
mapped_apart key g is a (suc n) =
    (not_above key (g a) (a + 1) (map g (range_with_len (a + 1) n)) (let e : key (g a) ≡ a = is a in omega (arith, e)) (mapped_above key g is (a + 1) n), mapped_apart key g is (a + 1) n)

cell_of : Site → ℕ
cell_of s = s.cell

cycle_of : Site → ℕ
cycle_of s = s.cycle

bit_of : Site → ℕ
bit_of s = s.bit

cell_apart : (t cell : ℕ) → Apart (cell_sites t cell)
unfolding cell_sites bit_of
cell_apart t cell = mapped_apart bit_of (λ bit. record { cycle = t; cell = cell; bit = bit }) (λ k. refl) 0 (bits cell)

cycle_apart : (pc : Bool) (ram t : ℕ) → Apart (cycle_sites pc ram t)
unfolding cycle_sites cells cell_of cell_sites
cycle_apart pc ram t =
    keyed_apart cell_of (cell_sites t) (λ cell. Each-map (λ s. cell_of s ≡ cell) (λ bit. record { cycle = t; cell = cell; bit = bit }) (range_with_len 0 (bits cell)) (λ bit. refl))
    (cell_apart t) (first_cell pc) _

cycle_keys : (pc : Bool) (ram t : ℕ) → Each (λ s. cycle_of s ≡ t) (cycle_sites pc ram t)
unfolding cycle_sites cells cycle_of cell_sites
cycle_keys pc ram t =
    Each-flat_map (λ s. cycle_of s ≡ t) (cell_sites t) (cells pc ram) (λ cell. Each-map (λ s. cycle_of s ≡ t) (λ bit. record { cycle = t; cell = cell; bit = bit }) (range_with_len 0 (bits cell)) (λ bit. refl))

sites_apart : (cycles ram : ℕ) (pc : Bool) → Apart (sites cycles ram pc)
unfolding sites
sites_apart cycles ram pc = keyed_apart cycle_of (cycle_sites pc ram) (cycle_keys pc ram) (cycle_apart pc ram) 0 cycles

NotIn-filter : (p : Site → Bool) (x : Site) (ys : List Site) → NotIn x ys → NotIn x (filter p ys)
unfolding NotIn
NotIn-filter p x [] not = tt
NotIn-filter p x (y ∷ ys) not = by (p y) (NotIn-filter p x ys not.1)
  where
    by : (t : Bool) → NotIn x (filter p ys) → NotIn x (cond t (y ∷ filter p ys) (filter p ys))
    by true rest = (not.0, rest)
    by false rest = rest

Apart-filter : (p : Site → Bool) (xs : List Site) → Apart xs → Apart (filter p xs)
unfolding Apart
Apart-filter p [] apart = tt
Apart-filter p (x ∷ xs) apart = by (p x) (NotIn-filter p x xs apart.0) (Apart-filter p xs apart.1)
  where
    by : (t : Bool) → NotIn x (filter p xs) → Apart (filter p xs) → Apart (cond t (x ∷ filter p xs) (filter p xs))
    by true not rest = (not, rest)
    by false not rest = rest

module _ (l : AccessLog) where
  site_back : (s : Site) → site_of (with_weight l s) ≡ s
  unfolding site_of with_weight
  site_back s = refl

  not_there : (s : Site) (rest : List Site) (j : ℕ) (b : Job) → NotIn s rest → slice_get (map (with_weight l) rest) j ≡ Some b → site_of b ≡ s → ⊥
  unfolding NotIn
  not_there s [] j b not there is = absurd (cc)
  not_there s (x ∷ rest) zero b not there is =
      let same : with_weight l x ≡ b = cc in not.0 (sym (sym (site_back x) ∙ ap site_of same ∙ is))
  not_there s (x ∷ rest) (suc j) b not there is = not_there s rest j b not.1 there is

  once_apart : (xs : List Site) → Apart xs → IsOnce (map (with_weight l) xs)
  unfolding Apart
  once_apart [] apart i j a b p q is = absurd (cc)
  once_apart (x ∷ xs) apart zero zero a b p q is = refl
  once_apart (x ∷ xs) apart zero (suc j) a b p q is =
      let same : with_weight l x ≡ a = cc in absurd (not_there x xs j b apart.0 q (sym is ∙ ap site_of (sym same) ∙ site_back x))
  once_apart (x ∷ xs) apart (suc i) zero a b p q is =
      let same : with_weight l x ≡ b = cc in absurd (not_there x xs i a apart.0 p (is ∙ ap site_of (sym same) ∙ site_back x))
  once_apart (x ∷ xs) apart (suc i) (suc j) a b p q is = ap (λ (n : ℕ). suc n) (once_apart xs apart.1 i j a b p q is)

  once_jobs : IsOnce (job_list l)
  unfolding job_list jobs
  once_jobs = once_apart (filter (λ site. is_read (l.access site.cycle site.cell)) (all_sites l)) (Apart-filter (λ site. is_read (l.access site.cycle site.cell)) (all_sites l) (sites_apart l.cycles l.ram l.pc))

pub once : (c : CaseData) → IsOnce (jobs_in c)
once c = once_jobs (log c)

pub once_of : (c : CaseData) (list : List Job) → list ≡ jobs_in c → IsOnce list
once_of c list is = subst IsOnce (sym is) (once c)
