-- Registers that are not in a mask.
use Rattle.std.proofs.Common.{ℕ, ◌≡◌, ◌≢◌, ◌*◌, ◌%◌, ◌^◌, ◌<◌, ◌==◌, Bool, true, false, max, ⊎_elim, sym, ap, ◌∙◌, arith}
use Rattle.std.specs.Prelude.{bit_and, bit_or}
use Rattle.std.specs.Int.{bit_at, bit_not, w32}
use Rattle.std.proofs.lemmas.Bool.{cases_eq}
use Rattle.std.proofs.lemmas.Bool.Decides.{nat_tests}
use Rattle.std.proofs.lemmas.Nat.Bits.{bit_at_or, bit_at-lt, bit_at_ones, bit_at_set_same, bit_at_set_other, bit_at_clear_other}

-- a bit that is not 1 is 0
pub off_is : (m k : ℕ) → (bit_at m k == 1) ≡ false → bit_at m k ≡ 0
off_is m k h = let low = bit_at-lt m k in grind (arith, nat_tests)

pub or_off : (a b k : ℕ) → bit_at (bit_or a b) k ≡ 0 → (bit_at a k ≡ 0) × (bit_at b k ≡ 0)
or_off a b k off =
    let e : max (bit_at a k) (bit_at b k) ≡ 0 = sym (bit_at_or a b k) ∙ off in
    (omega arith, omega arith)

-- a mask that has all of another one
pub within : (all some k : ℕ) → bit_or all some ≡ all → bit_at all k ≡ 0 → bit_at some k ≡ 0
within all some k same off = (or_off all some k (ap (λ (n : ℕ). bit_at n k) same ∙ off)).1

-- with register j
pub with_off : (m j k : ℕ) → j < 32 → bit_at (bit_or m (1 * 2 ^ j % 2 ^ 32)) k ≡ 0 → (k ≢ j) × (bit_at m k ≡ 0)
with_off m j k low off = ⊎_elim
    (λ (e : k ≡ j).
    let on : bit_at (bit_or m (1 * 2 ^ j % 2 ^ 32)) j ≡ 1 = bit_at_set_same w32 m j low in
    let off' : bit_at (bit_or m (1 * 2 ^ j % 2 ^ 32)) j ≡ 0 = ap (bit_at (bit_or m (1 * 2 ^ j % 2 ^ 32))) (sym e) ∙ off in
    absurd (omega (arith, on, off')))
    (λ (ne : k ≢ j). (ne, sym (bit_at_set_other w32 m j low k ne) ∙ off))
    (cases_eq k j)

-- without register j
pub without_off : (m j k : ℕ) → j < 32 → k < 32 → (k == j) ≡ false → bit_at (bit_and m (bit_not w32 (1 * 2 ^ j % 2 ^ 32))) k ≡ 0 → bit_at m k ≡ 0
without_off m j k low few other off =
    let ne : k ≢ j = grind (arith, nat_tests) in
    sym (bit_at_clear_other w32 m j low k few ne) ∙ off

-- the mask of all registers lacks none
pub all_off : (k : ℕ) → k < 32 → bit_at 0xffffffff k ≡ 0 → ⊥
all_off k few off = let on : bit_at 0xffffffff k ≡ 1 = bit_at_ones 32 k few in omega (arith, on, off)
