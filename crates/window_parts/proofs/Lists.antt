-- Lists by a test, and over the numbers of a range.
use Rattle.std.proofs.Common.{◌≡◌, ℕ, zero, suc, ◌+◌, ◌<◌, ◌≤◌, ◌&&◌, Bool, true, false, List, [], ◌∷◌, map, refl, arith}
use Rattle.std.specs.List.{filter, list_any, range_with_len}

-- functions that agree on a range
pub map_range : {X : Type 0} (f g : ℕ → X) (a n : ℕ) → ((t : ℕ) → a ≤ t → t < a + n → f t ≡ g t) → map f (range_with_len a n) ≡ map g (range_with_len a n)
map_range f g a zero h = refl
map_range f g a (suc n) h =
    let here : f a ≡ g a = h a (omega arith) (omega arith) in
    let later = map_range f g (a + 1) n (λ t low high. h t (omega arith) (omega arith)) in
    rw (here, later) refl

-- a test of what a function makes of the elements that pass another test
pub any_filtered : {X Y : Type 0} (p q : X → Bool) (f : X → Y) (g : Y → Bool) → ((x : X) → g (f x) ≡ q x) → (xs : List X)
    → list_any g (map f (filter p xs)) ≡ list_any (λ x. p x && q x) xs
any_filtered p q f g h [] = refl
any_filtered p q f g h (x ∷ xs) =
    elim (p x) as (λ (b : Bool). p x ≡ b → list_any g (map f (filter p (x ∷ xs))) ≡ list_any (λ y. p y && q y) (x ∷ xs)) [
      | true ↦ λ e. rw e (rw (h x, any_filtered p q f g h xs) refl)
      | false ↦ λ e. rw e (any_filtered p q f g h xs)
    ] refl
