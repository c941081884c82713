-- What an address belongs to.
use Rattle.std.proofs.Common.{◌≡◌, ℕ, zero, suc, ◌+◌, ◌<◌, ◌≤◌, ◌&&◌, cond, Bool, true, false, List, [], ◌∷◌, length, drop, get_or, Option, Some, None, refl, sym, ap, ◌∙◌, arith}
use Rattle.std.specs.Prelude.{nat_le, slice_get, option_map}
use Rattle.std.proofs.Math.Seq.{drop-cons}
use Rattle.std.proofs.lemmas.List.{get_or-drop}
use Rattle.std.proofs.lemmas.Bool.{le-leb, lt-leb, leb-true, leb-false}
use Rattle.std.proofs.lemmas.Option.{get_or_from_slice_get, slice_get_within}
use Rattle.elf_symbols.specs.declared.tables.Symbol.{Symbol}
use Rattle.elf_symbols.specs.Owners.{no_symbol, value_at, better, owner, owner_from, IsOwner}

-- ---- owners

some_symbol : (x y : Symbol) → ◌≡◌ {A = Option Symbol} (Some x) (Some y) → x ≡ y
some_symbol x y e = cc

owned : (p : Symbol → Bool) (symbol : Symbol) (rest : List Symbol) (o : Option ℕ) → IsOwner p rest o → (b : Bool) → p symbol ≡ b → IsOwner p (symbol ∷ rest) (better b symbol.value rest o)
owned p symbol rest None h true is = (symbol, refl, is, by)
  where
    by : (j : ℕ) (other : Symbol) → slice_get (symbol ∷ rest) j ≡ Some other → p other ≡ true → (other.value ≤ symbol.value) × (other.value ≡ symbol.value → 0 ≤ j)
    by zero other e passed = let same : symbol ≡ other = some_symbol symbol other e in (rw same (omega arith), λ v. omega arith)
    by (suc j) other e passed = let none = h j other e in let wrong : true ≡ false = sym passed ∙ none in absurd cc
owned p symbol rest None h false is = by
  where
    by : (j : ℕ) (other : Symbol) → slice_get (symbol ∷ rest) j ≡ Some other → p other ≡ false
    by zero other e = let same : symbol ≡ other = some_symbol symbol other e in rw (← same) is
    by (suc j) other e = h j other e
owned p symbol rest (Some i) h false is = (h.0, h.1, h.2, by)
  where
    by : (j : ℕ) (other : Symbol) → slice_get (symbol ∷ rest) j ≡ Some other → p other ≡ true → (other.value ≤ h.0.value) × (other.value ≡ h.0.value → suc i ≤ j)
    by zero other e passed = let same : symbol ≡ other = some_symbol symbol other e in let wrong : true ≡ false = sym (rw (← same) at passed) ∙ is in absurd cc
    by (suc j) other e passed = let r = h.3 j other e passed in (r.0, λ v. let k = r.1 v in omega arith)
owned p symbol rest (Some i) h true is =
    let value : value_at rest i ≡ h.0.value = ap (λ (s : Symbol). s.value) (get_or_from_slice_get rest i h.0 no_symbol h.1) in
    by (nat_le (value_at rest i) symbol.value) refl value
  where
    by : (b : Bool) → nat_le (value_at rest i) symbol.value ≡ b → value_at rest i ≡ h.0.value → IsOwner p (symbol ∷ rest) (cond (true && b) (Some 0) (Some (suc i)))
    by true low value = (symbol, refl, is, greatest)
      where
        greatest : (j : ℕ) (other : Symbol) → slice_get (symbol ∷ rest) j ≡ Some other → p other ≡ true → (other.value ≤ symbol.value) × (other.value ≡ symbol.value → 0 ≤ j)
        greatest zero other e passed = let same : symbol ≡ other = some_symbol symbol other e in (rw same (omega arith), λ v. omega arith)
        greatest (suc j) other e passed = let r = h.3 j other e passed in let le = leb-true (value_at rest i) symbol.value low in (omega (arith, r.0, le, value), λ v. omega arith)
    by false high value = (h.0, h.1, h.2, greatest)
      where
        greatest : (j : ℕ) (other : Symbol) → slice_get (symbol ∷ rest) j ≡ Some other → p other ≡ true → (other.value ≤ h.0.value) × (other.value ≡ h.0.value → suc i ≤ j)
        greatest zero other e passed =
            let same : symbol ≡ other = some_symbol symbol other e in
            let lt = leb-false (value_at rest i) symbol.value high in
            let less : symbol.value < h.0.value = omega (arith, lt, value) in
            let eq : symbol.value ≡ other.value = ap (λ (s : Symbol). s.value) same in
            (omega arith, λ v. absurd (omega arith))
        greatest (suc j) other e passed = let r = h.3 j other e passed in (r.0, λ v. let k = r.1 v in omega arith)

pub owner_is_owner : (p : Symbol → Bool) (symbols : List Symbol) → IsOwner p symbols (owner p symbols)
unfolding owner
owner_is_owner p [] = λ j other e. absurd cc
owner_is_owner p (symbol ∷ rest) = owned p symbol rest (owner p rest) (owner_is_owner p rest) (p symbol) refl

-- ---- the search

pub owner_end : (p : Symbol → Bool) (symbols : List Symbol) (n : ℕ) → n ≡ length symbols → owner_from p symbols n ≡ None
unfolding owner
owner_end p [] n e = let z : n ≡ 0 = e in rw z refl
owner_end p (x ∷ xs) zero e = absurd (omega arith)
owner_end p (x ∷ xs) (suc n) e = let r = owner_end p xs n (omega arith) in by (owner p (drop n xs)) r
  where
    by : (o : Option ℕ) → option_map (λ m. n + m) o ≡ None → option_map (λ m. suc n + m) o ≡ None
    by None r = refl
    by (Some i) r = absurd cc

-- what a walk over all of them leaves
pub is_owner : (p : Symbol → Bool) (symbols : List Symbol) (best : Option ℕ) (i : ℕ) → i ≤ 0 → best ≡ owner_from p symbols i → IsOwner p symbols best
is_owner p symbols best zero le is = rw (is ∙ same (owner p symbols)) (owner_is_owner p symbols)
  where
    same : (o : Option ℕ) → option_map (λ m. 0 + m) o ≡ o
    same None = refl
    same (Some i) = ap Some (omega arith)
is_owner p symbols best (suc i) le is = absurd (omega arith)

slice_drop : (xs : List Symbol) (i k : ℕ) → slice_get (drop i xs) k ≡ slice_get xs (i + k)
slice_drop xs zero k = let e : 0 + k ≡ k = omega arith in rw e refl
slice_drop [] (suc i) k = refl
slice_drop (x ∷ xs) (suc i) k = let e : suc i + k ≡ suc (i + k) = omega arith in rw e (slice_drop xs i k)

-- one symbol more
stepped : Bool → List Symbol → ℕ → Option ℕ → Option ℕ
stepped b symbols i None = cond b (Some i) None
stepped b symbols i (Some other) = cond (b && nat_le (value_at symbols other) (value_at symbols i)) (Some i) (Some other)

steps_to : (p : Symbol → Bool) (symbols : List Symbol) (i : ℕ) (best : Option ℕ) → i < length symbols → best ≡ owner_from p symbols (i + 1) → owner_from p symbols i ≡ stepped (p (get_or symbols i no_symbol)) symbols i best
unfolding owner stepped
steps_to p symbols i best low is =
    let next : i + 1 ≡ suc i = omega arith in
    rw (drop-cons symbols i no_symbol low) (by (owner p (drop (suc i) symbols)) (p (get_or symbols i no_symbol)) (rw next at is))
  where
    by : (o : Option ℕ) (b : Bool) → best ≡ option_map (λ n. suc i + n) o → option_map (λ n. i + n) (better b (get_or symbols i no_symbol).value (drop (suc i) symbols) o) ≡ stepped b symbols i best
    by None true e = rw e (ap Some (omega arith))
    by None false e = rw e refl
    by (Some j) b e =
        let v : value_at (drop (suc i) symbols) j ≡ value_at symbols (suc i + j) = ap (λ (s : Symbol). s.value) (get_or-drop (suc i) symbols j no_symbol) in
        rw (e, v) (which (b && nat_le (value_at symbols (suc i + j)) (value_at symbols i)))
      where
        which : (c : Bool) → option_map (λ n. i + n) (cond c (Some 0) (Some (suc j))) ≡ cond c (Some i) (Some (suc i + j))
        which true = ap Some (omega arith)
        which false = ap Some (omega arith)

pub past : (p : Symbol → Bool) (symbols : List Symbol) (i : ℕ) (best : Option ℕ) → i < length symbols → best ≡ owner_from p symbols (i + 1) → p (get_or symbols i no_symbol) ≡ false → best ≡ owner_from p symbols i
unfolding stepped
past p symbols i best low is no' = sym (steps_to p symbols i best low is ∙ rw no' (by best))
  where
    by : (b : Option ℕ) → stepped false symbols i b ≡ b
    by None = refl
    by (Some other) = refl

pub first_one : (p : Symbol → Bool) (symbols : List Symbol) (i : ℕ) (best : Option ℕ) → i < length symbols → best ≡ owner_from p symbols (i + 1) → p (get_or symbols i no_symbol) ≡ true → best ≡ None → Some i ≡ owner_from p symbols i
unfolding stepped
first_one p symbols i best low is passed e = sym (steps_to p symbols i best low is ∙ rw (passed, e) refl)

pub taken : (p : Symbol → Bool) (symbols : List Symbol) (i other : ℕ) (best : Option ℕ) → i < length symbols → best ≡ owner_from p symbols (i + 1) → p (get_or symbols i no_symbol) ≡ true → best ≡ Some other → value_at symbols other ≤ value_at symbols i → Some i ≡ owner_from p symbols i
unfolding stepped
taken p symbols i other best low is passed e le = sym (steps_to p symbols i best low is ∙ rw (passed, e, le-leb (value_at symbols other) (value_at symbols i) le) refl)

pub stays : (p : Symbol → Bool) (symbols : List Symbol) (i other : ℕ) (best : Option ℕ) → i < length symbols → best ≡ owner_from p symbols (i + 1) → p (get_or symbols i no_symbol) ≡ true → best ≡ Some other → value_at symbols i < value_at symbols other → Some other ≡ owner_from p symbols i
unfolding stepped
stays p symbols i other best low is passed e lt = sym (steps_to p symbols i best low is ∙ rw (passed, e, lt-leb (value_at symbols other) (value_at symbols i) lt) refl)

pub inside : (p : Symbol → Bool) (symbols : List Symbol) (i other : ℕ) (best : Option ℕ) → best ≡ owner_from p symbols (i + 1) → best ≡ Some other → other < length symbols
inside p symbols i other best is e = by (owner p (drop (i + 1) symbols)) (owner_is_owner p (drop (i + 1) symbols)) (sym e ∙ is)
  where
    by : (o : Option ℕ) → IsOwner p (drop (i + 1) symbols) o → Some other ≡ option_map (λ n. i + 1 + n) o → other < length symbols
    by None h x = absurd cc
    by (Some j) h x =
        let same : other ≡ i + 1 + j = cc in
        let there : slice_get symbols (i + 1 + j) ≡ Some h.0 = sym (slice_drop symbols (i + 1) j) ∙ h.1 in
        let low = slice_get_within symbols (i + 1 + j) h.0 there in
        omega arith
