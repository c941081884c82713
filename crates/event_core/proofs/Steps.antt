-- What the loops over the lists of a state need.
use Rattle.std.proofs.Common.{ℕ, ◌≡◌, ◌+◌, ◌<◌, ◌≤◌, ◌==◌, ◌||◌, Bool, true, false, cond, List, [], ◌∷◌, ◌++◌, length, take, drop, get_or, refl, sym, ap, ◌∙◌, arith, add-one}
use Rattle.std.specs.Prelude.{filter, count_by}
use Rattle.std.specs.List.{list_any}
use Rattle.std.proofs.lemmas.Bool.Decides.{nat_tests}
use Rattle.std.proofs.lemmas.List.{append-nil}
use Rattle.std.proofs.lemmas.List.Elements.{filter-append}
use Rattle.std.proofs.lemmas.List.Sums.{length-filter, count_by-le-length, count_by_more_no}
use Rattle.event_core.specs.declared.events.HeldJob.{HeldJob}
use Rattle.event_core.specs.EventCore.{times_listed, times_held, behind_front, numbers_below}
use Rattle.event_core.proofs.Counts.{bit, count-cons, count-none, length-numbers_below}

pub drop-front : (xs : List ℕ) → drop 1 xs ≡ behind_front xs
drop-front [] = refl
drop-front (x ∷ xs) = refl

pub count-some : {X : Type 0} (p : X → Bool) (xs : List X) → list_any p xs ≡ true → 0 < count_by p xs
count-some p [] h = absurd cc
count-some p (x ∷ xs) h = by (p x) refl h (count-some p xs)
  where
    by : (b : Bool) → p x ≡ b → (b || list_any p xs) ≡ true → (list_any p xs ≡ true → 0 < count_by p xs) → 0 < count_by p (x ∷ xs)
    by true e h rest = omega (arith, count-cons p x xs, ap bit e)
    by false e h rest = omega (arith, count-cons p x xs, rest h)

-- the jobs below n that are not kept
abbrev pub left_below : List ℕ → ℕ → List ℕ
left_below kept n = filter (λ job. times_listed job kept == 0) (numbers_below n)

pub left-short : (kept : List ℕ) (n : ℕ) → length (left_below kept n) ≤ n
left-short kept n =
    omega (arith, length-filter (λ job. times_listed job kept == 0) (numbers_below n), count_by-le-length (λ job. times_listed job kept == 0) (numbers_below n), length-numbers_below n)

left-more : (kept : List ℕ) (n : ℕ) → left_below kept (n + 1) ≡ left_below kept n ++ cond (times_listed n kept == 0) (n ∷ []) []
left-more kept n = rw add-one (filter-append (λ job. times_listed job kept == 0) (numbers_below n) (n ∷ []))

pub left-more_yes : (kept xs : List ℕ) (n : ℕ) → xs ≡ left_below kept n → list_any (λ y. y == n) kept ≡ false → xs ++ n ∷ [] ≡ left_below kept (n + 1)
left-more_yes kept xs n h none =
    let e : (times_listed n kept == 0) ≡ true = let z = count-none (λ y. y == n) kept none in grind (arith, nat_tests) in
    ap (λ ys. ys ++ n ∷ []) h ∙ ap (λ b. left_below kept n ++ cond b (n ∷ []) []) (sym e) ∙ sym (left-more kept n)

pub left-more_no : (kept xs : List ℕ) (n : ℕ) → xs ≡ left_below kept n → list_any (λ y. y == n) kept ≡ true → xs ≡ left_below kept (n + 1)
left-more_no kept xs n h some =
    let e : (times_listed n kept == 0) ≡ false = let z = count-some (λ y. y == n) kept some in grind (arith, nat_tests) in
    h ∙ sym (append-nil (left_below kept n)) ∙ ap (λ b. left_below kept n ++ cond b (n ∷ []) []) (sym e) ∙ sym (left-more kept n)

pub unheld-more : (job : ℕ) (hands : List HeldJob) (i : ℕ) (d : HeldJob) → times_held job (take i hands) ≡ 0 → i < length hands → ((get_or hands i d).job ≡ job → ⊥) → times_held job (take (i + 1) hands) ≡ 0
unheld-more job hands i d none h other =
    let e : ((get_or hands i d).job == job) ≡ false = grind (arith, nat_tests) in
    count_by_more_no (λ (hand : HeldJob). hand.job == job) hands i d h e ∙ none
