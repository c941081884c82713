-- Sums over numbers that stay below a bound, however many numbers there are.
use Rattle.std.proofs.Common.{◌≡◌, ℕ, zero, suc, ◌+◌, ◌*◌, ◌≤◌, cond, refl, ⊎_elim, arith}
use Rattle.std.specs.Prelude.{◌==◌, nat_le, nat_lt, ◌&&◌}
use Rattle.std.specs.List.{range_with_len, sum_by}
use Rattle.std.proofs.lemmas.List.Sums.{sum_by-cons, sum_by-le-sum_by}
use Rattle.std.proofs.lemmas.Bool.{cases_eq}
use Rattle.std.proofs.lemmas.Bool.Decides.{nat_tests}
use Rattle.fs_model.proofs.Sums.{sum_one, sum_zero, sum_add}

-- the sum of f over numbers in a row is at most m
pub record AddsUp (f : ℕ → ℕ) (m : ℕ) : Type 0 where
  pub most : (a n : ℕ) → sum_by f (range_with_len a n) ≤ m

pub none_adds : (f : ℕ → ℕ) → ((k : ℕ) → f k ≡ 0) → AddsUp f 0
none_adds f h = record { most = λ a n. omega (arith, sum_zero f (range_with_len a n) h) }

pub plus : (f g : ℕ → ℕ) (m n : ℕ) → AddsUp f m → AddsUp g n → AddsUp (λ k. f k + g k) (m + n)
plus f g m n h j = record { most = λ a l. omega (arith, sum_add f g (range_with_len a l), h.most a l, j.most a l) }

pub below : (f g : ℕ → ℕ) (m n : ℕ) → ((k : ℕ) → f k ≤ g k) → m ≤ n → AddsUp g m → AddsUp f n
below f g m n le room h = record { most = λ a l. omega (arith, sum_by-le-sum_by f g (range_with_len a l) le, h.most a l) }

one_sum : (f : ℕ → ℕ) (i w a n : ℕ) → f i ≤ w → ((k : ℕ) → (i ≡ k → ⊥) → f k ≡ 0) → sum_by f (range_with_len a n) ≤ w
one_sum f i w a zero few none = omega arith
one_sum f i w a (suc n) few none =
    ⊎_elim (λ (e : i ≡ a). omega (arith, sum_one f a (suc n) i (omega arith) (omega arith) none, few))
    (λ (ne : i ≡ a → ⊥). omega (arith, sum_by-cons f a (range_with_len (a + 1) n), none a ne, one_sum f i w (a + 1) n few none))
    (cases_eq i a)

-- one number alone counts
pub one_adds : (f : ℕ → ℕ) (i w : ℕ) → f i ≤ w → ((k : ℕ) → (i ≡ k → ⊥) → f k ≡ 0) → AddsUp f w
one_adds f i w few none = record { most = λ a n. one_sum f i w a n few none }

-- w at one number
unfoldable pub spot : ℕ → ℕ → ℕ → ℕ
spot i w k = cond (i == k) w 0

pub spot_adds : (i w : ℕ) → AddsUp (spot i w) w
unfolding spot
spot_adds i w = one_adds (spot i w) i w (grind (arith, nat_tests)) (λ k ne. grind (arith, nat_tests))

-- w at each of so many numbers from the first on
unfoldable pub stretch : ℕ → ℕ → ℕ → ℕ → ℕ
stretch first len w k = cond (nat_le first k && nat_lt k (first + len)) w 0

pub stretch_adds : (first len w : ℕ) → AddsUp (stretch first len w) (len * w)
unfolding stretch spot
stretch_adds first zero w = below _ _ 0 (0 * w) (λ k. grind (arith, nat_tests)) (omega arith) (none_adds (λ k. 0) (λ k. refl))
stretch_adds first (suc len) w =
    below _ _ (w + len * w) (suc len * w) (λ k. grind (arith, nat_tests)) (grind arith)
    (plus (spot first w) (stretch (first + 1) len w) w (len * w) (spot_adds first w) (stretch_adds (first + 1) len w))
