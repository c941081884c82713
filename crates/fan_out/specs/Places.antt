-- What holds at each place of a list whose first place has a number.
use Rattle.std.specs.Prelude.{◌≡◌, ℕ, ◌+◌, ◌<◌, List, length, slice_index_or}

-- each element and its number are so
pub record AreEach {X : Type 0} (P : ℕ → X → Type 0) (base : ℕ) (xs : List X) : Type 0 where
  pub each : (k : ℕ) (d : X) → k < length xs → P (base + k) (slice_index_or xs k d)

-- the lists are as long, and each element of both and its number are so
pub record ChangesAll {X : Type 0} (R : ℕ → X → X → Type 0) (base : ℕ) (xs ys : List X) : Type 0 where
  pub long : length ys ≡ length xs
  pub each : (k : ℕ) (d : X) → k < length xs → R (base + k) (slice_index_or xs k d) (slice_index_or ys k d)
