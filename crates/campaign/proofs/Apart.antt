-- Numbers that go up are distinct.
use Rattle.std.proofs.Common.{◌≡◌, ℕ, ◌+◌, ◌<◌, ◌≤◌, ◌==◌, cond, Bool, true, false, List, [], ◌∷◌, ◌++◌, refl, ap, subst, arith, ne_eqb}
use Rattle.std.specs.Prelude.{All}
use Rattle.std.proofs.lemmas.List.Elements.{All-head, All-tail}
use Rattle.std.proofs.lemmas.List.Sums.{sum_by-cons, sum_by-append}
use Rattle.std.proofs.lemmas.Bool.Decides.{nat_tests}
use Rattle.job_queue.specs.Pages.{times_among, AreDistinct}

abbrev one : ℕ → ℕ → ℕ
one x y = cond (y == x) 1 0

-- a number that is above all of a list is not in it
pub times_above : (m : ℕ) (xs : List ℕ) → All (λ n. n < m) xs → times_among m xs ≡ 0
times_above m [] below = refl
times_above m (x ∷ xs) below =
    let head : x < m = All-head (λ n. n < m) x xs below in
    let here : one m x ≡ 0 = ap (λ (b : Bool). cond b 1 0) (ne_eqb x m (λ e. absurd (omega (arith, e, head)))) in
    omega (arith, sum_by-cons (one m) x xs, here, times_above m xs (All-tail (λ n. n < m) x xs below))

times_push : (x m : ℕ) (xs : List ℕ) → times_among x (xs ++ m ∷ []) ≡ times_among x xs + one x m
times_push x m xs = omega (arith, sum_by-append (one x) xs (m ∷ []), sum_by-cons (one x) m [])

push_at : (m x : ℕ) (xs : List ℕ) → times_among x xs ≤ 1 → times_among m xs ≡ 0 → (b : Bool) → (m == x) ≡ b → times_among x xs + one x m ≤ 1
push_at m x xs apart none true e =
    let same : m ≡ x = grind (arith, nat_tests) in
    let here : one x m ≡ 1 = ap (λ (b : Bool). cond b 1 0) e in
    let gone : times_among x xs ≡ 0 = subst (λ (k : ℕ). times_among k xs ≡ 0) same none in
    omega (arith, here, gone)
push_at m x xs apart none false e =
    let here : one x m ≡ 0 = ap (λ (b : Bool). cond b 1 0) e in
    omega (arith, here, apart)

-- one more above all of them
pub apart_push : (m : ℕ) (xs : List ℕ) → AreDistinct xs → All (λ n. n < m) xs → AreDistinct (xs ++ m ∷ [])
apart_push m xs apart below x =
    let fits = push_at m x xs (apart x) (times_above m xs below) (m == x) refl in
    omega (arith, times_push x m xs, fits)
