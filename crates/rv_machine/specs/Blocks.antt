-- RAM by blocks of 512 bytes, of which those that were written are marked.
use Rattle.std.specs.Prelude.{ℕ, ◌≡◌, ◌*◌, ◌/◌, ◌<◌, ◌≤◌, Bool, true, false, List, length, slice_index, slice_index_or}

-- each byte has a block, and where that is not marked it is the byte that RAM has at first
pub record HasMarks (first ram : List ℕ) (marks : List Bool) : Type 0 where
  pub same_length : length ram ≡ length first
  pub blocks : length ram ≤ 512 * length marks
  pub unmarked : (p : ℕ) → p < length ram → slice_index_or marks (p / 512) true ≡ false → slice_index ram p ≡ slice_index first p

-- the bytes from `at` on, before `end`, are those of `from`, and all others are the old ones
pub record IsPart (old from : List ℕ) (at end : ℕ) (new : List ℕ) : Type 0 where
  pub taken : (p : ℕ) → at ≤ p → p < end → slice_index new p ≡ slice_index from p
  pub before : (p : ℕ) → p < at → slice_index new p ≡ slice_index old p
  pub behind : (p : ℕ) → end ≤ p → slice_index new p ≡ slice_index old p
