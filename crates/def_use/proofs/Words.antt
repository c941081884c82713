-- The words of a board: what a place of one holds, and what a write makes of it.
use Rattle.std.proofs.Common.{◌≡◌, ◌≢◌, ℕ, ◌+◌, ◌-◌, ◌*◌, ◌/◌, ◌%◌, ◌^◌, ◌<◌, ◌≤◌, sym, ap, ◌∙◌, arith, bit_xor, ⊎_elim}
use Rattle.std.proofs.lemmas.Nat.{pow-add, shl-shr, shr-shr, shr_le, xor_shr, xor_mod, xor_lt, shl_whole}
use Rattle.std.proofs.lemmas.Bool.{cases_lt}
use native.Mathlib.Nat.{mul_assoc}
use lib.Bits.{xor_zero_r, xor_self, xor_assoc, xor_zero_l}
use Rattle.def_use.specs.Words.{digit}

-- ---- one place of a word, and another

module _ (x i : ℕ) (small : x < 8) where
  here : digit (x * 2 ^ (3 * i)) i ≡ x
  here = ap (λ (n : ℕ). n % 8) (shl-shr x (3 * i)) ∙ omega arith

  above : (k j : ℕ) → 3 * j ≡ 3 * i + (3 + 3 * k) → digit (x * 2 ^ (3 * i)) j ≡ 0
  above k j at =
      let behind : x * 2 ^ (3 * i) / 2 ^ (3 * j) ≡ x / 2 ^ 3 / 2 ^ (3 * k) =
      ap (λ (n : ℕ). x * 2 ^ (3 * i) / 2 ^ n) at ∙ sym (shr-shr (x * 2 ^ (3 * i)) (3 * i) (3 + 3 * k))
      ∙ ap (λ (n : ℕ). n / 2 ^ (3 + 3 * k)) (shl-shr x (3 * i)) ∙ sym (shr-shr x 3 (3 * k)) in
      let none : x / 2 ^ 3 ≡ 0 = omega arith in
      let e = shr_le (x / 2 ^ 3) (3 * k) in
      omega arith

  below : (k j : ℕ) → 3 * i ≡ 3 * k + 3 + 3 * j → digit (x * 2 ^ (3 * i)) j ≡ 0
  below k j at =
      let width : 2 ^ (3 * i) ≡ 2 ^ (3 * k) * 8 * 2 ^ (3 * j) =
      ap (λ (n : ℕ). 2 ^ n) at ∙ pow-add 2 (3 * k + 3) (3 * j) ∙ ap (λ (n : ℕ). n * 2 ^ (3 * j)) (pow-add 2 (3 * k) 3) in
      let behind : x * 2 ^ (3 * i) / 2 ^ (3 * j) ≡ x * 2 ^ (3 * k) * 8 =
      ap (λ (n : ℕ). n / 2 ^ (3 * j)) (ap (λ (n : ℕ). x * n) width ∙ sym (mul_assoc x (2 ^ (3 * k) * 8) (2 ^ (3 * j))))
      ∙ shl-shr (x * (2 ^ (3 * k) * 8)) (3 * j) ∙ sym (mul_assoc x (2 ^ (3 * k)) 8) in
      omega arith

  other : (j : ℕ) → j ≢ i → digit (x * 2 ^ (3 * i)) j ≡ 0
  other j ne =
      ⊎_elim (λ (less : j < i). below (i - j - 1) j (omega arith))
      (λ (more : i ≤ j). above (j - i - 1) j (omega arith))
      (cases_lt j i)

digit_of_xor : (a b j : ℕ) → digit (bit_xor a b) j ≡ bit_xor (digit a j) (digit b j)
digit_of_xor a b j = ap (λ (n : ℕ). n % 8) (xor_shr a b (3 * j)) ∙ xor_mod (a / 2 ^ (3 * j)) (b / 2 ^ (3 * j)) 3

pub changed_fits : (number : ℕ) → number < 8 → bit_xor 3 number < 8
changed_fits number small = xor_lt 3 3 number (omega arith) small

module _ (word place number : ℕ) (small : number < 8) (blank : digit word place ≡ 3) where
  abbrev change : ℕ
  change = bit_xor 3 number * 2 ^ (3 * place)

  pub written_here : digit (bit_xor word change) place ≡ number
  written_here =
      digit_of_xor word change place ∙ rw (blank, here (bit_xor 3 number) place (changed_fits number small))
      (sym (xor_assoc 3 3 number) ∙ ap (λ (n : ℕ). bit_xor n number) (xor_self 3) ∙ xor_zero_l number)

  pub written_others : (j : ℕ) → j ≢ place → digit (bit_xor word change) j ≡ digit word j
  written_others j ne =
      digit_of_xor word change j ∙ rw (other (bit_xor 3 number) place (changed_fits number small) j ne) (xor_zero_r (digit word j))

  pub change_whole : place < 21 → change % 2 ^ 64 ≡ change
  change_whole within = shl_whole (bit_xor 3 number) 3 (3 * place) 64 (changed_fits number small) (omega arith)
