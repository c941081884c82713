-- Where the row of a job is found.
use Rattle.std.proofs.Common.{◌≡◌, ◌≢◌, ℕ, ◌+◌, ◌<◌, ◌==◌, cond, Bool, List, [], ◌∷◌, ◌++◌, length, get_or, take, Option, Some, None, refl, sym, ap, ◌∙◌, subst, arith, ne_eqb}
use Rattle.std.specs.Prelude.{All, flat_map, slice_get}
use Rattle.std.proofs.lemmas.List.{take_more, append-nil}
use Rattle.std.proofs.lemmas.List.Concat.{flat_map-append}
use Rattle.std.proofs.lemmas.List.Elements.{All-get_or, All-head, All-tail}
use Rattle.std.proofs.lemmas.List.Sums.{sum_by-cons, sum_by-append}
use Rattle.fs_model.specs.declared.sites.Site.{Site}
use Rattle.fs_model.specs.declared.sites.Job.{Job}
use Rattle.fs_model.specs.declared.outcomes.Outcome.{Outcome}
use Rattle.fs_model.specs.declared.outcomes.Row.{Row}
use Rattle.fs_model.specs.Case.{CaseData}
use Rattle.fs_model.specs.Job.{site_of}
use Rattle.fs_model.specs.Outcome.{outcome}
use Rattle.fs_model.specs.Verdict.{IsRight, site_of_row}
use Rattle.job_queue.specs.Pages.{times_among}
use Rattle.def_use.specs.Rows.{row_of_job, with_row, rows_of}

row_eta : (row : Row) (cycle cell bit : ℕ) (o : Outcome) → row.cycle ≡ cycle → row.cell ≡ cell → row.bit ≡ bit → row.outcome ≡ o → row ≡ record { cycle = cycle; cell = cell; bit = bit; outcome = o }
row_eta row cycle cell bit o a b d e = rw (sym a, sym b, sym d, sym e) refl

-- a right row with the name of a job is the job's
pub right_row : (c : CaseData) (row : Row) (job : Job) → IsRight c row → site_of_row row ≡ site_of job → row ≡ row_of_job (outcome c) job
unfolding site_of
right_row c row job right name =
    row_eta row job.cycle job.cell job.bit (outcome c (site_of job)) (ap (λ (s : Site). s.cycle) name) (ap (λ (s : Site). s.cell) name) (ap (λ (s : Site). s.bit) name) (right ∙ ap (outcome c) name)

pub holds_at : {W : Type 0} (P : W → Type 0) (xs : List W) (i : ℕ) (x : W) → i < length xs → x ≡ get_or xs i x → All P xs → P x
holds_at P xs i x below is all = subst P (sym is) (All-get_or P xs i x below all)

pub flat_map-take : {W : Type 0} (f : W → List ℕ) (xs : List W) (i : ℕ) (x : W) → i < length xs → x ≡ get_or xs i x → flat_map f (take (i + 1) xs) ≡ flat_map f (take i xs) ++ f x
flat_map-take {W} f xs i x below is =
    ap (λ (l : List W). flat_map f l) (take_more xs i x below)
    ∙ (flat_map-append f (take i xs) (get_or xs i x ∷ [])
    ∙ ap (λ (l : List ℕ). flat_map f (take i xs) ++ l) (append-nil (f (get_or xs i x)) ∙ ap f (sym is)))

pub times-append : (n : ℕ) (xs ys : List ℕ) → times_among n (xs ++ ys) ≡ times_among n xs + times_among n ys
times-append n xs ys = sum_by-append (λ y. cond (y == n) 1 0) xs ys

module _ (outcomes : Site → Outcome) (list : List Job) (n : ℕ) (job : Job) (at : slice_get list n ≡ Some job) where
  -- no row of other names than the job's has the job's number
  abbrev Lacks : Row → Type 0
  Lacks row = site_of_row row ≢ site_of job

  -- its own row has its name
  own : site_of_row (row_of_job outcomes job) ≡ site_of job
  unfolding site_of
  own = refl

  later : (x : Option Job) (rows : List Row) → All Lacks (with_row outcomes x rows) → All Lacks rows
  later None rows all = all
  later (Some j) rows all = All-tail Lacks (row_of_job outcomes j) rows all

  apart : (x : ℕ) (rows : List Row) → All Lacks (with_row outcomes (slice_get list x) rows) → x ≢ n
  apart x rows all e =
      let here : slice_get list x ≡ Some job = ap (λ (k : ℕ). slice_get list k) e ∙ at in
      let with : All Lacks (row_of_job outcomes job ∷ rows) = subst (λ (j : Option Job). All Lacks (with_row outcomes j rows)) here all in
      All-head Lacks (row_of_job outcomes job) rows with own

  pub none_claimed : (claims : List ℕ) → All Lacks (rows_of outcomes list claims) → times_among n claims ≡ 0
  unfolding rows_of
  none_claimed [] all = refl
  none_claimed (x ∷ xs) all =
      let one : ℕ → ℕ = λ y. cond (y == n) 1 0 in
      let rows = rows_of outcomes list xs in
      let here : one x ≡ 0 = ap (λ (b : Bool). cond b 1 0) (ne_eqb x n (apart x rows all)) in
      omega (arith, sum_by-cons (λ y. cond (y == n) 1 0) x xs, here, none_claimed xs (later (slice_get list x) rows all))

  pub offered_none : (rows : List Row) (claims : List ℕ) → rows ≡ rows_of outcomes list claims → All Lacks rows → times_among n claims ≡ 0
  offered_none rows claims is all = none_claimed claims (subst (λ (l : List Row). All Lacks l) is all)
