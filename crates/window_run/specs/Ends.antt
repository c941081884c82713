-- How the work on the jobs that are due in a window ends.
use Rattle.std.specs.Prelude.{◌≡◌, ℕ, ◌+◌, ◌<◌, Bool, List, length, slice_get, Option, Some, None, Ok, Err}
use Rattle.fs_model.specs.declared.outcomes.Outcome.{Outcome}
use Rattle.fs_model.specs.declared.outcomes.Row.{Row}
use Rattle.fs_model.specs.Case.{CaseData}
use Rattle.fs_model.specs.Job.{jobs_in}
use Rattle.fs_model.specs.Pages.{within_budget}
use Rattle.def_use.specs.Board.{kept_of}
use Rattle.result_keeper.specs.Acceptance.{accept}
use Rattle.window_counts.specs.Windows.{HasDueBelow, IsDueAt}
use Rattle.campaign.specs.Perform.{IsOver}
use Rattle.campaign.specs.Portions.{due, is_due_at}
use Rattle.campaign.specs.Rows.{batches}
use Rattle.command_line.specs.Window.{RunningData}
use Rattle.phases.specs.declared.status.Status.{Status}
use Rattle.phases.specs.declared.status.Status.TheVariants as status

-- ---- which jobs

-- the jobs that are due in a window
abbrev pub window_jobs : List Bool → CaseData → ℕ → Bool
window_jobs window c = is_due_at window (jobs_in c)

-- the rows that are appended to a file that gave this board, in pages: those of the missing jobs that are due, and no others
abbrev pub window_batches : RunningData → List Bool → CaseData → List (Option Outcome) → List (List Row)
window_batches asked window c board = batches c (window_jobs window c) board asked.page asked.stop_after

-- each job that is due in the window has an outcome on the board
abbrev pub HasEachDue : List Bool → CaseData → List (Option Outcome) → Type 0
HasEachDue window c board = HasDueBelow window (jobs_in c) board (length (jobs_in c))

-- ---- from a board on

-- more of the missing jobs are due than the budget allows, and then this many of the jobs have an outcome
pub record StopsDue (budget : Option ℕ) (window : List Bool) (c : CaseData) (board : List (Option Outcome)) (kept jobs : ℕ) : Type 0 where
  pub over : IsOver budget (window_jobs window c) board
  pub kept_is : kept ≡ kept_of board + length (within_budget budget (due (window_jobs window c) board))
  pub jobs_is : jobs ≡ length board

-- how the work from a board on may end
abbrev pub EndsInWindow : Option ℕ → List Bool → CaseData → List (Option Outcome) → Status → Type 0
EndsInWindow budget window c board status.KeepFault = Unit {0}
EndsInWindow budget window c board (status.Stopped kept jobs) = StopsDue budget window c board kept jobs
EndsInWindow budget window c board status.Done = IsOver budget (window_jobs window c) board → ⊥
EndsInWindow budget window c board status.WriteFault = IsOver budget (window_jobs window c) board → ⊥
EndsInWindow budget window c board status.NoMemory = Unit {0}
EndsInWindow budget window c board answer = ⊥

-- a due job has no outcome, and this many of the jobs have one
pub record IsPartial (window : List Bool) (c : CaseData) (board : List (Option Outcome)) (kept jobs : ℕ) : Type 0 where
  pub first : ℕ
  pub is_due : IsDueAt window (jobs_in c) first
  pub blank : slice_get board first ≡ Some None
  pub kept_is : kept ≡ kept_of board
  pub jobs_is : jobs ≡ length board

-- how the count of the sites of a window may end
abbrev pub EndsByCounting : List Bool → CaseData → List (Option Outcome) → Status → Type 0
EndsByCounting window c board (status.Stopped kept jobs) = IsPartial window c board kept jobs
EndsByCounting window c board status.Done = HasEachDue window c board
EndsByCounting window c board status.WriteFault = HasEachDue window c board
EndsByCounting window c board status.NoMemory = HasEachDue window c board
EndsByCounting window c board answer = ⊥

-- ---- by the campaign file

-- all due jobs that are missing are run
pub record FinishesDue (budget : Option ℕ) (window : List Bool) (file : List ℕ) (c : CaseData) : Type 0 where
  pub board : List (Option Outcome)
  pub opened : accept file c ≡ Ok board
  pub within : IsOver budget (window_jobs window c) board → ⊥

-- due jobs are left
pub record LeavesDue (budget : Option ℕ) (window : List Bool) (file : List ℕ) (c : CaseData) (kept jobs : ℕ) : Type 0 where
  pub board : List (Option Outcome)
  pub opened : accept file c ≡ Ok board
  pub stopped : StopsDue budget window c board kept jobs

-- how the work on the jobs of a window may end, by the file where its disk tells it
abbrev pub IsWindowEnd : Type 0 → Option ℕ → List Bool → List ℕ → CaseData → Status → Type 0
IsWindowEnd tells budget window file c status.KeepFault = Unit {0}
IsWindowEnd tells budget window file c (status.BadKeep refusal) = tells → accept file c ≡ Err refusal
IsWindowEnd tells budget window file c (status.Stopped kept jobs) = tells → LeavesDue budget window file c kept jobs
IsWindowEnd tells budget window file c status.Done = tells → FinishesDue budget window file c
IsWindowEnd tells budget window file c status.WriteFault = tells → FinishesDue budget window file c
IsWindowEnd tells budget window file c status.NoMemory = Unit {0}
IsWindowEnd tells budget window file c answer = ⊥
