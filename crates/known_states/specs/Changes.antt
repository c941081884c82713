-- Bytes with changes.
use Rattle.std.specs.Prelude.{ℕ, ◌≡◌, ◌<◌, ◌≤◌, ◌⊎◌, length, slice_index, List, [], ◌∷◌, ◌++◌, slice_set}
use Rattle.known_states.specs.declared.changes.Change.{Change}

-- the bytes, changed one after the other
unfoldable pub changed : List ℕ → List Change → List ℕ
changed bytes [] = bytes
changed bytes (x ∷ xs) = changed (slice_set bytes x.place x.byte) xs

-- the byte is as before, or its change was added
abbrev pub IsAdded : ℕ → ℕ → ℕ → List Change → List Change → Type 0
IsAdded place old byte xs ys = ((old ≡ byte) × (ys ≡ xs)) ⊎ (ys ≡ xs ++ record { place = place; byte = byte } ∷ [])

-- the bytes below `at` were changed into those that are now, and no other was
pub record IsChanged (base now : List ℕ) (xs : List Change) (at : ℕ) : Type 0 where
  pub same : length (changed base xs) ≡ length base
  pub below : (k : ℕ) → k < at → slice_index (changed base xs) k ≡ slice_index now k
  pub above : (k : ℕ) → at ≤ k → slice_index (changed base xs) k ≡ slice_index base k
