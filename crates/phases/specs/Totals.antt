-- A board that has no totals.
use Rattle.std.specs.Prelude.{◌≡◌, ℕ, List, length, slice_get, Option, Some, None}
use Rattle.fs_model.specs.declared.outcomes.Outcome.{Outcome}
use Rattle.def_use.specs.Board.{kept_of}
use Rattle.phases.specs.declared.status.Status.{Status}
use Rattle.phases.specs.declared.status.Status.TheVariants as status

-- a job has no outcome, and `kept` of the `jobs` have one
abbrev pub IsUnfinished : List (Option Outcome) → Status → Type 0
IsUnfinished board (status.Stopped kept jobs) = (first : ℕ) × (slice_get board first ≡ Some None) × (kept ≡ kept_of board) × (jobs ≡ length board)
IsUnfinished board answer = ⊥
