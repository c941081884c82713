-- What holds of every outcome: by cases a line for each, and what follows from it.
use Rattle.std.proofs.Common.{◌≡◌, ℕ, ◌+◌, ◌<◌, ◌≤◌, ◌==◌, ◌&&◌, cond, Bool, true, false, List, [], ◌∷◌, length, Some, if◌then◌else◌, refl, sym, ap, ◌∙◌, ⊎_elim, add-zero, arith, lit<}
use Rattle.std.proofs.Math.Path.{fun_ext}
use Rattle.std.proofs.Math.ListN.{set}
use Rattle.std.specs.Prelude.{sum_by, slice_index}
use Rattle.std.specs.List.{find, list_all}
use Rattle.std.proofs.lemmas.Bool.{cases_eq}
use Rattle.std.proofs.lemmas.Bool.Decides.{nat_tests}
use Rattle.std.proofs.lemmas.List.{get_or-set_same, get_or-set_other}
use Rattle.fs_model.specs.declared.outcomes.Outcome.{Outcome}
use Rattle.fs_model.specs.declared.outcomes.Outcome.TheVariants.{NoEffect, Silent, Detected, Timeout, Illegal, Address, Misaligned}
use Rattle.fs_model.specs.declared.outcomes.TheConstants.{NUMBERS}
use Rattle.fs_model.specs.Outcome.{TotalsData, all_outcomes, number_of, outcome_of, same_outcome, totals_of, total_at, sum_of, added, totals_in}
use Rattle.fs_model.proofs.Sums.{sum_add}

-- ---- by cases

-- an outcome is one of all and stands there once, and its number stands for it
record IsListed (o : Outcome) : Type 0 where
  back : outcome_of (number_of o) ≡ Some o
  low : number_of o < NUMBERS
  at : (f : Outcome → ℕ) → total_at (totals_of f) o ≡ f o
  within : (f : Outcome → ℕ) → f o ≤ sum_by f all_outcomes
  once : (n : ℕ) → sum_by (λ p. if number_of o == number_of p then n else 0) all_outcomes ≡ n

listed : (o : Outcome) → IsListed o
unfolding total_at totals_of
listed NoEffect = record { back = refl; low = lit< tt; at = λ f. refl; within = λ f. omega arith; once = λ n. omega arith }
listed Silent = record { back = refl; low = lit< tt; at = λ f. refl; within = λ f. omega arith; once = λ n. omega arith }
listed Detected = record { back = refl; low = lit< tt; at = λ f. refl; within = λ f. omega arith; once = λ n. omega arith }
listed Timeout = record { back = refl; low = lit< tt; at = λ f. refl; within = λ f. omega arith; once = λ n. omega arith }
listed Illegal = record { back = refl; low = lit< tt; at = λ f. refl; within = λ f. omega arith; once = λ n. omega arith }
listed Address = record { back = refl; low = lit< tt; at = λ f. refl; within = λ f. omega arith; once = λ n. omega arith }
listed Misaligned = record { back = refl; low = lit< tt; at = λ f. refl; within = λ f. omega arith; once = λ n. omega arith }

-- ---- numbers

pub outcome_of-number_of : (o : Outcome) → outcome_of (number_of o) ≡ Some o
outcome_of-number_of o = (listed o).back

pub number_of-low : (o : Outcome) → number_of o < NUMBERS
number_of-low o = (listed o).low

-- ---- two outcomes

same_number : (m n : ℕ) → (m == n) ≡ true → m ≡ n
same_number m n e = grind (arith, nat_tests)

pub same_as_itself : (o : Outcome) → same_outcome o o ≡ true
unfolding same_outcome
same_as_itself o = grind (arith, nat_tests)

pub same_then : (a b : Outcome) → same_outcome a b ≡ true → a ≡ b
unfolding same_outcome
same_then a b same =
    let found : Some a ≡ Some b = sym (outcome_of-number_of a) ∙ ap outcome_of (same_number (number_of a) (number_of b) same) ∙ outcome_of-number_of b in
    cc

-- ---- all outcomes

found_passes : (p q : Outcome → Bool) (o : Outcome) (os : List Outcome) → find q os ≡ Some o → list_all p os ≡ true → p o ≡ true
found_passes p q o [] found all = absurd (cc)
found_passes p q o (x ∷ os) found all = by (q x) (p x) refl (found_passes p q o os) found all
  where
    by : (here passes : Bool) → p x ≡ passes → (find q os ≡ Some o → list_all p os ≡ true → p o ≡ true)
        → cond here (Some x) (find q os) ≡ Some o → (passes && list_all p os) ≡ true → p o ≡ true
    by true true is later e a = let same : x ≡ o = cc in ap p (sym same) ∙ is
    by here false is later e a = absurd (cc)
    by false true is later e a = later e a

-- what holds of all of them holds of each
pub each_passes : (p : Outcome → Bool) → list_all p all_outcomes ≡ true → (o : Outcome) → p o ≡ true
each_passes p all o = found_passes p (λ x. number_of x == number_of o) o all_outcomes (outcome_of-number_of o) all

-- ---- totals

pub total_at-totals_of : (f : Outcome → ℕ) (o : Outcome) → total_at (totals_of f) o ≡ f o
total_at-totals_of f o = (listed o).at f

pub total_at-added : (t : TotalsData) (x o : Outcome) (weight : ℕ) → total_at (added t x weight) o ≡ total_at t o + cond (same_outcome x o) weight 0
total_at-added t x o weight = total_at-totals_of (λ p. total_at t p + cond (same_outcome x p) weight 0) o

pub total_at-le-sum_of : (t : TotalsData) (o : Outcome) → total_at t o ≤ sum_of t
total_at-le-sum_of t o = (listed o).within (λ p. total_at t p)

pub sum_of-totals_of : (f : Outcome → ℕ) → sum_of (totals_of f) ≡ sum_by f all_outcomes
sum_of-totals_of f = ap (λ (g : Outcome → ℕ). sum_by g all_outcomes) (fun_ext (total_at-totals_of f))

pub sum_of-added : (t : TotalsData) (o : Outcome) (weight : ℕ) → sum_of (added t o weight) ≡ sum_of t + weight
unfolding same_outcome
sum_of-added t o weight =
    sum_of-totals_of (λ p. total_at t p + cond (same_outcome o p) weight 0)
    ∙ sum_add (λ p. total_at t p) (λ p. cond (number_of o == number_of p) weight 0) all_outcomes ∙ ap (λ n. sum_of t + n) ((listed o).once weight)

-- ---- totals in a list by the numbers of outcomes

pub total_at-totals_in : (numbers : List ℕ) (o : Outcome) → total_at (totals_in numbers) o ≡ slice_index numbers (number_of o)
total_at-totals_in numbers o = total_at-totals_of (λ p. slice_index numbers (number_of p)) o

-- a weight more at the number of an outcome
module _ (numbers : List ℕ) (o : Outcome) (weight : ℕ) (long : length numbers ≡ NUMBERS) where
  abbrev more : List ℕ
  more = set numbers (number_of o) (slice_index numbers (number_of o) + weight)

  at_own : (p : Outcome) → number_of p ≡ number_of o → slice_index more (number_of p) ≡ slice_index numbers (number_of p) + cond (number_of o == number_of p) weight 0
  at_own p e =
      let low = number_of-low o in
      let same : (number_of o == number_of p) ≡ true = grind (arith, nat_tests, e) in
      ap (λ (n : ℕ). slice_index more n) e
      ∙ get_or-set_same numbers (number_of o) (slice_index numbers (number_of o) + weight) 0 (omega arith)
      ∙ ap (λ (n : ℕ). slice_index numbers n + weight) (sym e)
      ∙ ap (λ (b : Bool). slice_index numbers (number_of p) + cond b weight 0) (sym same)

  at_other : (p : Outcome) → (number_of p ≡ number_of o → ⊥) → slice_index more (number_of p) ≡ slice_index numbers (number_of p) + cond (number_of o == number_of p) weight 0
  at_other p other =
      let differ : (number_of o == number_of p) ≡ false = grind (arith, nat_tests, other) in
      get_or-set_other numbers (number_of o) (number_of p) (slice_index numbers (number_of o) + weight) 0 other
      ∙ sym (add-zero (slice_index numbers (number_of p)))
      ∙ ap (λ (b : Bool). slice_index numbers (number_of p) + cond b weight 0) (sym differ)

  pub totals_in-set : totals_in more ≡ added (totals_in numbers) o weight
  unfolding same_outcome
  totals_in-set = ap (λ (f : Outcome → ℕ). totals_of f) (fun_ext each)
    where
      each : (p : Outcome) → slice_index more (number_of p) ≡ total_at (totals_in numbers) p + cond (number_of o == number_of p) weight 0
      each p =
          ⊎_elim (λ (e : number_of p ≡ number_of o). at_own p e) (λ (other : number_of p ≡ number_of o → ⊥). at_other p other) (cases_eq (number_of p) (number_of o))
          ∙ ap (λ (n : ℕ). n + cond (number_of o == number_of p) weight 0) (sym (total_at-totals_in numbers p))
