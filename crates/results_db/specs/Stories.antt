-- What parts of an export did to its store, and how they may end.
use Rattle.std.specs.Prelude.{◌≡◌, ◌≢◌, ◌⊎◌, ℕ, false, List, [], length, Option, Some, None, Ok}
use Rattle.fs_outside.specs.Faults.{IsCaused}
use Rattle.fs_model.specs.declared.outcomes.Outcome.{Outcome}
use Rattle.fs_model.specs.Case.{CaseData}
use Rattle.fs_model.specs.Job.{jobs_in}
use Rattle.fs_model.specs.Pages.{missing}
use Rattle.result_keeper.specs.Acceptance.{accept}
use Rattle.row_store.specs.declared.rows.ExportRow.{ExportRow}
use Rattle.campaign.specs.Perform.{IsStopped}
use Rattle.campaign.specs.Shards.{in_shard}
use Rattle.phases.specs.Baselines.{Halts}
use Rattle.phases.specs.Status.{is_store_fault}
use Rattle.phases.specs.declared.status.Status.{Status}
use Rattle.phases.specs.declared.status.Status.TheVariants as status
use Rattle.kept_commands.specs.Keep.{EndsFrom, Finishes, IsKeepCause}
use Rattle.kept_commands.specs.Run.{no_job}
use Rattle.results_db.specs.Rows.{rows_by}

-- the rows were stored: only writing was left
abbrev pub IsStored : Status → Type 0
IsStored answer = (answer ≡ status.Done) ⊎ (answer ≡ status.WriteFault)

-- The store, where it tells its rows, holds such rows once they were stored, where the file tells them; and what it held with any
-- other answer.
pub record StoreStory {T : Type 0} (tells holds : Type 0) (rows : T → List ExportRow) (faults : T → ℕ) (Holds : List ExportRow → Type 0) (old new : T)
    (answer : Status) : Type 0 where
  pub whole : tells → holds → IsStored answer → Holds (rows new)
  pub kept : holds → answer ≢ status.Done → answer ≢ status.WriteFault → rows new ≡ rows old
  pub cause : IsCaused (is_store_fault answer) (faults old) (faults new)

-- the rows of a case's jobs with their outcomes on a board that has all
pub record AreRowsOf (c : CaseData) (board : List (Option Outcome)) (rows : List ExportRow) : Type 0 where
  pub whole : missing board ≡ []
  pub rows_are : rows ≡ rows_by (jobs_in c) board
  pub each : length rows ≡ length (jobs_in c)

-- the same on the board that a file gives
pub record AreRowsIn (file : List ℕ) (c : CaseData) (rows : List ExportRow) : Type 0 where
  pub board : List (Option Outcome)
  pub opened : accept file c ≡ Ok board
  pub are : AreRowsOf c board rows

-- no rows were made: a job has no outcome, or there was no memory
abbrev pub IsUnstored : List (Option Outcome) → Status → Type 0
IsUnstored board (status.Stopped kept jobs) = IsStopped (Some 0) (in_shard None) board kept jobs
IsUnstored board status.NoMemory = Unit {0}
IsUnstored board answer = ⊥

-- how an export may end on a case and its file: as `report` does, or for a fault of the store
abbrev pub IsExportCause : Type 0 → List ℕ → CaseData → Status → Type 0
IsExportCause tells file c status.StoreFault = Halts c × (tells → Finishes false no_job file c)
IsExportCause tells file c answer = IsKeepCause tells false no_job file c answer

-- and from a board on
abbrev pub ExportsFrom : List (Option Outcome) → Status → Type 0
ExportsFrom board status.StoreFault = EndsFrom no_job board status.Done
ExportsFrom board answer = EndsFrom no_job board answer
