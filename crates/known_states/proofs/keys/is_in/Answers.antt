use Rattle.std.proofs.Common.{◌≡◌, ℕ, ◌*◌, ◌%◌, ◌<◌, ◌==◌, true, false, nat_eq, bit_and, refl, ⊎_elim, ◌∙◌, ap, arith, rules}
use Rattle.std.specs.Prelude.{◌^◌, not}
use Rattle.std.specs.Int.{bit_at}
use Rattle.std.proofs.lemmas.Bool.{cases_eq}
use Rattle.std.proofs.lemmas.Bool.Decides.{nat_tests}
use Rattle.std.proofs.lemmas.Nat.{pow_pos}
use Rattle.std.proofs.lemmas.Nat.Bits.{and_pow, bit_at-lt}
use Rattle.known_states.proofs.keys.is_in.Goals as goal

-- a bit times a number that is not 0
bit_test : (b p n : ℕ) → b < 2 → 0 < p → n ≡ b * p → not (nat_eq n 0) ≡ (b == 1)
bit_test b p n low some is = ⊎_elim
    (λ (e : b ≡ 0).
    let none : n ≡ 0 = is ∙ rw e (omega arith) in
    let a : nat_eq n 0 ≡ true = grind (arith, nat_tests) in
    let c : (b == 1) ≡ false = grind (arith, nat_tests) in
    rw (a, c) refl)
    (λ (ne : b ≡ 0 → ⊥).
    let one : b ≡ 1 = omega (arith, low, ne) in
    let all : n ≡ p = is ∙ rw one (omega arith) in
    let a : nat_eq n 0 ≡ false = grind (arith, nat_tests) in
    let c : (b == 1) ≡ true = grind (arith, nat_tests) in
    rw (a, c) refl)
    (cases_eq b 0)

pub returns : goal.returns
returns c =
    let shift : 1 * 2 ^ c.args.k % 4294967296 ≡ 2 ^ c.args.k = search rules in
    bit_test (bit_at c.args.mask c.args.k) (2 ^ c.args.k) (bit_and c.args.mask (1 * 2 ^ c.args.k % 4294967296)) (bit_at-lt c.args.mask c.args.k) (pow_pos c.args.k) (ap (bit_and c.args.mask) shift ∙ and_pow c.args.mask c.args.k)
