-- Counts over numbers in a row.
use Rattle.std.proofs.Common.{◌≡◌, ℕ, zero, suc, ◌+◌, ◌-◌, ◌<◌, ◌≤◌, ◌&&◌, Bool, true, false, cond, List, [], ◌∷◌, ◌++◌, length, map, refl, sym, ap, ◌∙◌, arith}
use Rattle.std.specs.Prelude.{nat_le, nat_lt}
use Rattle.std.specs.List.{range_with_len, filter, sum_by, All}
use Rattle.std.proofs.lemmas.List.Sums.{length-filter, sum_by-cons, sum_by-append, sum_by-le-sum_by}
use Rattle.std.proofs.lemmas.List.{map-append}
use Rattle.std.proofs.lemmas.List.Elements.{All-nil, All-cons}
use Rattle.std.proofs.lemmas.Bool.{le-leb, lt-leb, le-ltb, lt-ltb}
use Rattle.fs_model.proofs.Space.{range_split}
use Rattle.fs_model.proofs.Sums.{sum_zero}

-- ---- sums that depend only on the numbers of the range

pub sum_range : (f g : ℕ → ℕ) (a n : ℕ) → ((t : ℕ) → a ≤ t → t < a + n → f t ≡ g t) → sum_by f (range_with_len a n) ≡ sum_by g (range_with_len a n)
sum_range f g a zero h = refl
sum_range f g a (suc n) h =
    let here : f a ≡ g a = h a (omega arith) (omega arith) in
    let later = sum_range f g (a + 1) n (λ t low high. h t (omega arith) (omega arith)) in
    rw (sum_by-cons f a (range_with_len (a + 1) n), sum_by-cons g a (range_with_len (a + 1) n), here, later) refl

pub sum_range_zero : (f : ℕ → ℕ) (a n : ℕ) → ((t : ℕ) → a ≤ t → t < a + n → f t ≡ 0) → sum_by f (range_with_len a n) ≡ 0
sum_range_zero f a n h = sum_range f (λ t. 0) a n h ∙ sum_zero (λ t. 0) (range_with_len a n) (λ t. refl)

pub sum_ones : (a n : ℕ) → ◌≡◌ {A = ℕ} (sum_by (λ t. 1) (range_with_len a n)) n
sum_ones a zero = refl
sum_ones a (suc n) = rw (sum_by-cons (λ t. 1) a (range_with_len (a + 1) n), sum_ones (a + 1) n) (omega arith)

pub sum_split : (f : ℕ → ℕ) (a m n : ℕ) → sum_by f (range_with_len a (m + n)) ≡ sum_by f (range_with_len a m) + sum_by f (range_with_len (a + m) n)
sum_split f a m n = ap (sum_by f) (range_split a m n) ∙ sum_by-append f (range_with_len a m) (range_with_len (a + m) n)

-- from numbers below n, those from s on and before e
pub sum_part : (q : ℕ → Bool) (s e n : ℕ) → s ≤ e → e ≤ n →
    sum_by (λ t. cond ((nat_le s t && nat_lt t e) && q t) 1 0) (range_with_len 0 n) ≡ sum_by (λ t. cond (q t) 1 0) (range_with_len s (e - s))
sum_part q s e n low high =
    let all : n ≡ s + ((e - s) + (n - e)) = omega arith in
    let first : 0 + s ≡ s = omega arith in
    let last : s + (e - s) ≡ e = omega arith in
    ap (λ m. sum_by f (range_with_len 0 m)) all
    ∙ sum_split f 0 s ((e - s) + (n - e))
    ∙ rw (first, sum_split f s (e - s) (n - e), last, before, after, within) (omega arith)
  where
    f : ℕ → ℕ
    f t = cond ((nat_le s t && nat_lt t e) && q t) 1 0

    before : sum_by f (range_with_len 0 s) ≡ 0
    before = sum_range_zero f 0 s (λ t a b. let lt : t < s = omega arith in rw (lt-leb s t lt) refl)

    after : sum_by f (range_with_len e (n - e)) ≡ 0
    after = sum_range_zero f e (n - e) (λ t a b. let le : s ≤ t = omega arith in rw (le-leb s t le, le-ltb t e a) refl)

    within : sum_by f (range_with_len s (e - s)) ≡ sum_by (λ t. cond (q t) 1 0) (range_with_len s (e - s))
    within = sum_range f (λ t. cond (q t) 1 0) s (e - s) (λ t a b. let lt : t < e = omega arith in rw (le-leb s t a, lt-ltb t e lt) refl)

-- terms that are at most as great, and add up to as much, are the same
pub sum_tight : {X : Type 0} (f g : X → ℕ) (xs : List X) → ((x : X) → f x ≤ g x) → sum_by f xs ≡ sum_by g xs → All (λ x. f x ≡ g x) xs
sum_tight f g [] le e = All-nil (λ x. f x ≡ g x)
sum_tight f g (x ∷ xs) le e =
    let a = sum_by-cons f x xs in
    let b = sum_by-cons g x xs in
    let here : f x ≤ g x = le x in
    let later = sum_by-le-sum_by f g xs le in
    All-cons (λ x. f x ≡ g x) x xs (omega arith) (sum_tight f g xs le (omega arith))

-- ---- how many numbers of a range pass

pub count_same : (p q : ℕ → Bool) (a n : ℕ) → ((t : ℕ) → a ≤ t → t < a + n → p t ≡ q t) → length (filter p (range_with_len a n)) ≡ length (filter q (range_with_len a n))
count_same p q a n h =
    length-filter p (range_with_len a n) ∙ sum_range (λ t. cond (p t) 1 0) (λ t. cond (q t) 1 0) a n (λ t low high. ap (λ b. cond b 1 0) (h t low high)) ∙ sym (length-filter q (range_with_len a n))

pub count_split : (p : ℕ → Bool) (a m n : ℕ) → length (filter p (range_with_len a (m + n))) ≡ length (filter p (range_with_len a m)) + length (filter p (range_with_len (a + m) n))
count_split p a m n =
    length-filter p (range_with_len a (m + n)) ∙ sum_split (λ t. cond (p t) 1 0) a m n
    ∙ rw (length-filter p (range_with_len a m), length-filter p (range_with_len (a + m) n)) refl

pub count_none : (p : ℕ → Bool) (a n : ℕ) → ((t : ℕ) → a ≤ t → t < a + n → p t ≡ false) → length (filter p (range_with_len a n)) ≡ 0
count_none p a n h = length-filter p (range_with_len a n) ∙ sum_range_zero (λ t. cond (p t) 1 0) a n (λ t low high. ap (λ b. cond b 1 0) (h t low high))

pub count_one : (p : ℕ → Bool) (a : ℕ) → length (filter p (range_with_len a 1)) ≡ cond (p a) 1 0
count_one p a = elim (p a) as (λ b. length (cond b (a ∷ []) []) ≡ cond b 1 0) [ true ↦ refl | false ↦ refl ]

pub count-le : (p : ℕ → Bool) (a n : ℕ) → length (filter p (range_with_len a n)) ≤ n
count-le p a zero = omega arith
count-le p a (suc n) = elim (p a) as (λ b. length (cond b (a ∷ filter p (range_with_len (a + 1) n)) (filter p (range_with_len (a + 1) n))) ≤ suc n) [ true ↦ omega (arith, count-le p (a + 1) n) | false ↦ omega (arith, count-le p (a + 1) n) ]

-- a number that passes
pub record Passes (p : ℕ → Bool) (a n : ℕ) : Type 0 where
  pub at : ℕ
  pub low : a ≤ at
  pub high : at < a + n
  pub passes : p at ≡ true

pub count_some : (p : ℕ → Bool) (a n : ℕ) → 0 < length (filter p (range_with_len a n)) → Passes p a n
count_some p a zero h = absurd (omega arith)
count_some p a (suc n) h = by (p a) refl h (λ later. count_some p (a + 1) n later)
  where
    by : (b : Bool) → p a ≡ b → 0 < length (cond b (a ∷ filter p (range_with_len (a + 1) n)) (filter p (range_with_len (a + 1) n))) → (0 < length (filter p (range_with_len (a + 1) n)) → Passes p (a + 1) n) → Passes p a (suc n)
    by true is h' rest = record { at = a; low = omega arith; high = omega arith; passes = is }
    by false is h' rest = let r = rest h' in record { at = r.at; low = omega (arith, r.low); high = omega (arith, r.high); passes = r.passes }

pub some_count : (p : ℕ → Bool) (a n : ℕ) → Passes p a n → 0 < length (filter p (range_with_len a n))
some_count p a n h =
    let m = h.at - a in
    let here : a + m ≡ h.at = omega arith in
    let rest : n ≡ m + (1 + (n - m - 1)) = omega arith in
    let one : length (filter p (range_with_len h.at 1)) ≡ 1 = count_one p h.at ∙ ap (λ b. cond b 1 0) h.passes in
    let all = ap (λ k. length (filter p (range_with_len a k))) rest ∙ count_split p a m (1 + (n - m - 1)) in
    let part : length (filter p (range_with_len (a + m) (1 + (n - m - 1)))) ≡ 1 + length (filter p (range_with_len (h.at + 1) (n - m - 1))) =
    rw here (count_split p h.at 1 (n - m - 1) ∙ ap (λ k. k + length (filter p (range_with_len (h.at + 1) (n - m - 1)))) one) in
    omega arith

-- ---- lists over ranges

pub map_below : {Y : Type 0} (f g : ℕ → Y) (a n : ℕ) → ((t : ℕ) → a ≤ t → t < a + n → f t ≡ g t) → map f (range_with_len a n) ≡ map g (range_with_len a n)
map_below f g a zero h = refl
map_below f g a (suc n) h =
    let here : f a ≡ g a = h a (omega arith) (omega arith) in
    let later = map_below f g (a + 1) n (λ t low high. h t (omega arith) (omega arith)) in
    rw (here, later) refl

pub map_more : {Y : Type 0} (f : ℕ → Y) (n : ℕ) → map f (range_with_len 0 (n + 1)) ≡ map f (range_with_len 0 n) ++ f n ∷ []
map_more f n =
    let z : 0 + n ≡ n = omega arith in
    ap (map f) (range_split 0 n 1) ∙ map-append f (range_with_len 0 n) (range_with_len (0 + n) 1) ∙ ap (λ m. map f (range_with_len 0 n) ++ f m ∷ []) z
