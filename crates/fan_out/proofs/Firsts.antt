-- What holds of the first element and of the others holds of all.
use Rattle.std.proofs.Common.{◌≡◌, ℕ, zero, suc, ◌+◌, ◌<◌, List, [], ◌∷◌, ◌++◌, length, slice_index_or, slice_set, refl, sym, subst, arith}
use Rattle.fan_out.specs.Places.{AreEach, ChangesAll}

pub of_others : {X : Type 0} (P : ℕ → X → Type 0) (base : ℕ) (all first others : List X) → all ≡ first ++ others → length first ≡ 1 → AreEach P base all → AreEach P (base + 1) others
of_others {X} P base all first others is one each = split first is one where
  split : (first : List X) → all ≡ first ++ others → length first ≡ 1 → AreEach P (base + 1) others
  split [] is one = absurd (omega arith)
  split (x ∷ []) is one = let h = subst (λ (l : List X). AreEach P base l) is each in record { each = λ k d l. subst (λ n. P n (slice_index_or others k d)) {x = base + suc k} (omega arith) (h.each (suc k) d (omega arith)) }
  split (x ∷ (y ∷ ys)) is one = absurd (omega arith)

pub of_both : {X : Type 0} (R : ℕ → X → X → Type 0) (base : ℕ) (all first others ones rest : List X) → all ≡ first ++ others → length first ≡ 1 → ChangesAll R base first ones → ChangesAll R (base + 1) others rest → ChangesAll R base all (ones ++ rest)
of_both {X} R base all first others ones rest is one a b = subst (λ (l : List X). ChangesAll R base l (ones ++ rest)) (sym is) (joined first ones one a) where
  joined : (first ones : List X) → length first ≡ 1 → ChangesAll R base first ones → ChangesAll R base (first ++ others) (ones ++ rest)
  joined [] ones one a = absurd (omega arith)
  joined (x ∷ (y ∷ ys)) ones one a = absurd (omega arith)
  joined (x ∷ []) [] one a = absurd (omega (arith, a.long))
  joined (x ∷ []) (u ∷ (v ∷ vs)) one a = absurd (omega (arith, a.long))
  joined (x ∷ []) (u ∷ []) one a = record { long = omega (arith, b.long); each = at } where
    at : (k : ℕ) (d : X) → k < length (x ∷ others) → R (base + k) (slice_index_or (x ∷ others) k d) (slice_index_or (u ∷ rest) k d)
    at zero d l = a.each 0 d (omega arith)
    at (suc k) d l = subst (λ n. R n (slice_index_or others k d) (slice_index_or rest k d)) {x = base + 1 + k} (omega arith) (b.each k d (omega arith))

-- where there is one element
pub one_changed : {X : Type 0} (R : ℕ → X → X → Type 0) (base : ℕ) (xs : List X) (d y : X) → length xs ≡ 1 → R base (slice_index_or xs 0 d) y → ChangesAll R base xs (slice_set xs 0 y)
one_changed R base [] d y one changed = absurd (omega arith)
one_changed R base (x ∷ (z ∷ zs)) d y one changed = absurd (omega arith)
one_changed {X} R base (x ∷ []) d y one changed = record { long = omega arith; each = at } where
  at : (k : ℕ) (e : X) → k < 1 → R (base + k) (slice_index_or (x ∷ []) k e) (slice_index_or (y ∷ []) k e)
  at zero e l = subst (λ n. R n x y) {x = base} (omega arith) changed
  at (suc k) e l = absurd (omega arith)

-- where the places are counted from 0
pub of_each : {X : Type 0} (R : ℕ → X → X → Type 0) (xs ys : List X) → ChangesAll R 0 xs ys → (i : ℕ) (d : X) → i < length xs → (slice_index_or ys i d ≡ slice_index_or ys i d) × R i (slice_index_or xs i d) (slice_index_or ys i d)
of_each R xs ys changed i d l = (refl, subst (λ n. R n (slice_index_or xs i d) (slice_index_or ys i d)) {x = 0 + i} (omega arith) (changed.each i d l))
