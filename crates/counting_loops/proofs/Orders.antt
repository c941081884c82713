-- Tests of numbers that move from round to round.
use Rattle.std.proofs.Common.{◌≡◌, ℕ, ◌+◌, ◌*◌, ◌%◌, ◌^◌, ◌<◌, ◌≤◌, ◌==◌, false, sym, ap, ◌∙◌, arith}
use Rattle.std.proofs.Math.Nat.{mod-lt}
use Rattle.std.proofs.lemmas.Bool.Decides.{nat_tests}
use Rattle.std.proofs.lemmas.Int.{ints}
use Rattle.fs_model.specs.Word.{plus, minus, less, less_signed}
use Rattle.counting_loops.specs.declared.paces.Pace.{Pace}
use Rattle.counting_loops.specs.declared.paces.Pace.TheVariants.{By, Unknown}
use Rattle.counting_loops.specs.declared.paces.Range.{Range}
use Rattle.counting_loops.specs.Paces.{MovedBy, IsBetween}

-- in the first round
pub moved_first : (pace : Pace) (v : ℕ) → v < 2 ^ 32 → MovedBy pace 0 v v
moved_first (By step) v low = grind arith
moved_first Unknown v low = tt

-- where the pace is known
pub moved_low : (pace : Pace) (step i p x : ℕ) → pace ≡ By step → MovedBy pace i p x → x < 2 ^ 32
moved_low pace step i p x is f = let f' : x ≡ (p + i * step) % 2 ^ 32 = rw is at f in rw f' (mod-lt (p + i * step) {m = 2 ^ 32} (omega arith))

pub equal_is : (x y : ℕ) → x < 2 ^ 32 → y < 2 ^ 32 → (x == y) ≡ (minus x y == 0)
equal_is x y low low' = grind (arith, nat_tests)

pub equal_same : (x y p q : ℕ) → x < 2 ^ 32 → y < 2 ^ 32 → p < 2 ^ 32 → q < 2 ^ 32 → minus x y ≡ minus p q → (x == y) ≡ (p == q)
equal_same x y p q a b c d e = equal_is x y a b ∙ ap (λ (n : ℕ). n == 0) e ∙ sym (equal_is p q c d)

pub equal_never : (x y p q : ℕ) → x < 2 ^ 32 → y < 2 ^ 32 → p < 2 ^ 32 → q < 2 ^ 32 → 0 < minus x y → 0 < minus p q → (x == y) ≡ (p == q)
equal_never x y p q a b c d e f =
    let no : (minus x y == 0) ≡ false = grind (arith, nat_tests) in
    let no' : (minus p q == 0) ≡ false = grind (arith, nat_tests) in
    equal_is x y a b ∙ no ∙ sym no' ∙ sym (equal_is p q c d)

pub signed_is : (x y : ℕ) → x < 2 ^ 32 → y < 2 ^ 32 → less_signed x y ≡ less (plus x 0x80000000) (plus y 0x80000000)
signed_is x y low low' = grind (arith, ints, nat_tests)

pub below_stays : (r s : Range) (x y p q : ℕ) → r.most < s.least → IsBetween r x → IsBetween r p → IsBetween s y → IsBetween s q → less x y ≡ less p q
below_stays r s x y p q e a b c d = grind (arith, nat_tests)

pub above_stays : (r s : Range) (x y p q : ℕ) → s.most ≤ r.least → IsBetween r x → IsBetween r p → IsBetween s y → IsBetween s q → less x y ≡ less p q
above_stays r s x y p q e a b c d = grind (arith, nat_tests)
