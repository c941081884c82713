-- The first and the last number that pass a test.
use Rattle.std.proofs.Common.{◌≡◌, ℕ, zero, suc, ◌+◌, ◌-◌, ◌<◌, ◌≤◌, Bool, true, false, if◌then◌else◌, Option, Some, None, IfSome, refl, sym, ap, ◌∙◌, arith, add-one}
use Rattle.timeline.specs.Places.{place_from, last_from}

module _ (test : ℕ → Bool) (n : ℕ) where
  pub first_no : (k m : ℕ) → m ≡ n + k → place_from test n k ≡ None → test m ≡ false → place_from test n (k + 1) ≡ None
  unfolding place_from
  first_no k m e none f = let f' : test (n + k) ≡ false = rw e at f in rw (add-one, none, f') refl

  pub first_yes : (k m : ℕ) → m ≡ n + k → place_from test n k ≡ None → test m ≡ true → place_from test n (k + 1) ≡ Some m
  unfolding place_from
  first_yes k m e none t = let t' : test (n + k) ≡ true = rw e at t in rw (add-one, none, t', e) refl

  stays : (k d m : ℕ) → place_from test n k ≡ Some m → place_from test n (k + d) ≡ Some m
  unfolding place_from
  stays k zero m e = let same : k + 0 ≡ k = omega arith in rw same e
  stays k (suc d) m e = let more : k + suc d ≡ suc (k + d) = omega arith in rw (more, stays k d m e) refl

  -- what is found stays found
  pub first_stays : (k j m : ℕ) → k ≤ j → place_from test n k ≡ Some m → place_from test n j ≡ Some m
  first_stays k j m low e = let all : k + (j - k) ≡ j = omega arith in rw all at (stays k (j - k) m e)

  pub last_yes : (k m : ℕ) → m ≡ n + k → test m ≡ true → last_from test n (k + 1) ≡ Some m
  unfolding last_from
  last_yes k m e t = let t' : test (n + k) ≡ true = rw e at t in rw (add-one, t', e) refl

  pub last_no : (k m : ℕ) → m ≡ n + k → test m ≡ false → last_from test n (k + 1) ≡ last_from test n k
  unfolding last_from
  last_no k m e f = let f' : test (n + k) ≡ false = rw e at f in rw (add-one, f') refl

-- where no number passes
pub first_never : (test : ℕ → Bool) (n k : ℕ) → ((i : ℕ) → test i ≡ false) → place_from test n k ≡ None
unfolding place_from
first_never test n zero f = refl
first_never test n (suc k) f = rw (first_never test n k f, f (n + k)) refl

pub last_never : (test : ℕ → Bool) (n k : ℕ) → ((i : ℕ) → test i ≡ false) → last_from test n k ≡ None
unfolding last_from
last_never test n zero f = refl
last_never test n (suc k) f = rw (f (n + k)) (last_never test n k f)

-- ---- in two pieces

pub last_late : (test : ℕ → Bool) (n k j m : ℕ) → last_from test (n + k) j ≡ Some m → last_from test n (k + j) ≡ Some m
unfolding last_from
last_late test n k zero m e = absurd cc
last_late test n k (suc j) m e =
    let more : k + suc j ≡ suc (k + j) = omega arith in
    let place : n + k + j ≡ n + (k + j) = omega arith in
    rw more (by (test (n + (k + j))) (rw place at e) (last_late test n k j m))
  where
    by : (b : Bool) → (if b then Some (n + (k + j)) else last_from test (n + k) j) ≡ Some m → (last_from test (n + k) j ≡ Some m → last_from test n (k + j) ≡ Some m) → (if b then Some (n + (k + j)) else last_from test n (k + j)) ≡ Some m
    by true h rest = h
    by false h rest = rest h

pub last_early : (test : ℕ → Bool) (n k j : ℕ) → last_from test (n + k) j ≡ None → last_from test n (k + j) ≡ last_from test n k
unfolding last_from
last_early test n k zero e = let same : k + 0 ≡ k = omega arith in rw same refl
last_early test n k (suc j) e =
    let more : k + suc j ≡ suc (k + j) = omega arith in
    let place : n + k + j ≡ n + (k + j) = omega arith in
    rw more (by (test (n + (k + j))) (rw place at e) (last_early test n k j))
  where
    by : (b : Bool) → (if b then Some (n + (k + j)) else last_from test (n + k) j) ≡ None → (last_from test (n + k) j ≡ None → last_from test n (k + j) ≡ last_from test n k) → (if b then Some (n + (k + j)) else last_from test n (k + j)) ≡ last_from test n k
    by true h rest = absurd cc
    by false h rest = rest h

-- one number more
pub last_more : (test : ℕ → Bool) (n k m : ℕ) (b : Bool) (o r : Option ℕ) → m ≡ n + k → b ≡ test m → r ≡ (if b then Some m else o) → o ≡ last_from test n k → r ≡ last_from test n (k + 1)
unfolding last_from
last_more test n k m b o r at told is before = let told' : test (n + k) ≡ b = ap test (sym at) ∙ sym told in rw (add-one, told', ← at, is, before) refl

-- it is one of the numbers
pub last_within : (test : ℕ → Bool) (n k : ℕ) → IfSome (last_from test n k) (λ m. m < n + k)
unfolding last_from
last_within test n zero = tt
last_within test n (suc k) = by (test (n + k)) (last_from test n k) (last_within test n k)
  where
    by : (b : Bool) (o : Option ℕ) → IfSome o (λ m. m < n + k) → IfSome (if b then Some (n + k) else o) (λ m. m < n + suc k)
    by true o h = omega arith
    by false None h = tt
    by false (Some m) h = omega arith
