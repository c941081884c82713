-- The rows of a file as its bytes have them.
use Rattle.std.specs.Prelude.{◌≡◌, ℕ, ◌+◌, ◌*◌, ◌≤◌, ◌<◌, Bool, true, List, [], ◌++◌, length, drop, Option, Some, None, is_some}
use Rattle.keep_format.specs.KeepFile.{Batches, rows_from, batches_from}
use Rattle.keep_format.specs.declared.raw_rows.RawRow.{RawRow}
use Rattle.keep_format.specs.declared.raw_rows.Spot.{Spot}

abbrev pub raw_rows_of : Option Batches → List RawRow
raw_rows_of None = []
raw_rows_of (Some found) = found.rows

-- the batches after `left` rows
abbrev pub behind : ℕ → ℕ → List ℕ → Option Batches
behind left at file = batches_from (at + 10 * left) 0 (drop (at + 10 * left) file)

abbrev pub is_whole_batch : ℕ → ℕ → List ℕ → Bool
is_whole_batch left at file = is_some (behind left at file)

-- `left` rows from a place on, and those of the batches after them
abbrev pub rows_left : ℕ → ℕ → List ℕ → List RawRow
rows_left left at file = rows_from left at (drop at file) ++ raw_rows_of (behind left at file)

-- these rows begin there, or there are none
abbrev pub IsSpot : List ℕ → List RawRow → Option Spot → Type 0
IsSpot file rows None = rows ≡ []
IsSpot file rows (Some spot) =
    (rows ≡ rows_left spot.left spot.at file) × (0 < spot.left) × (spot.at + 10 * spot.left ≤ length file) × (is_whole_batch spot.left spot.at file ≡ true)
