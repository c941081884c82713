-- One more at its place.
use Rattle.std.proofs.Common.{◌≡◌, ℕ, zero, suc, ◌+◌, ◌<◌, List, [], ◌∷◌, ◌++◌, length, get_or, arith}

module _ {W : Type 0} (number : W → ℕ) where
  push_from : (m : ℕ) (ws : List W) (w : W) → ((k : ℕ) (d : W) → k < length ws → number (get_or ws k d) ≡ m + k) → number w ≡ m + length ws
      → (k : ℕ) (d : W) → k < length (ws ++ w ∷ []) → number (get_or (ws ++ w ∷ []) k d) ≡ m + k
  push_from m [] w each here zero d below = omega (arith, here)
  push_from m [] w each here (suc k) d below = absurd (omega (arith, below))
  push_from m (v ∷ ws) w each here zero d below = each 0 d (omega arith)
  push_from m (v ∷ ws) w each here (suc k) d below =
      let later = push_from (m + 1) ws w (λ j c b. let x = each (suc j) c (omega (arith, b)) in omega (arith, x)) (omega (arith, here)) k d (omega (arith, below)) in
      omega (arith, later)

  pub numbered_push : (ws : List W) (w : W) → ((k : ℕ) (d : W) → k < length ws → number (get_or ws k d) ≡ k) → number w ≡ length ws
      → (k : ℕ) (d : W) → k < length (ws ++ w ∷ []) → number (get_or (ws ++ w ∷ []) k d) ≡ k
  numbered_push ws w each here k d below =
      let all = push_from 0 ws w (λ j c b. let x = each j c b in omega (arith, x)) (omega (arith, here)) k d below in
      omega (arith, all)
