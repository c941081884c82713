-- How a campaign ends.
use Rattle.std.specs.Prelude.{◌≡◌, ℕ, ◌+◌, ◌<◌, Bool, true, false, List, length, Option, Some}
use Rattle.def_use.specs.Board.{kept_of}
use Rattle.fs_model.specs.declared.outcomes.Outcome.{Outcome}
use Rattle.fs_model.specs.declared.outcomes.Row.{Row}
use Rattle.fs_model.specs.Outcome.{TotalsData}
use Rattle.fs_model.specs.Pages.{missing, within_budget}
use Rattle.campaign.specs.Ready.{ReadyData, portion_of}
use Rattle.campaign.specs.Rows.{batches}
use Rattle.campaign.specs.Portions.{due}
use Rattle.campaign.specs.declared.performing.Performed.{Performed}
use Rattle.campaign.specs.declared.performing.Performed.TheVariants.{Done, Stopped, KeepFault}

-- what a campaign appends from here on
abbrev pub batches_due : ReadyData → List (List Row)
batches_due ready = batches ready.keeper.case (portion_of ready) ready.keeper.board ready.keeper.page ready.budget

-- the answer says that the disk failed
abbrev pub is_fault : Performed → Bool
is_fault (Done totals) = false
is_fault (Stopped kept jobs) = false
is_fault KeepFault = true

-- with totals, these hold
abbrev pub IfDone : Performed → (TotalsData → Type 0) → Type 0
IfDone (Done totals) P = P totals
IfDone (Stopped kept jobs) P = Unit {0}
IfDone KeepFault P = Unit {0}

-- if the campaign stopped before its end, this holds of the number of jobs that have an outcome and of the number of all jobs
abbrev pub IfStopped : Performed → (ℕ → ℕ → Type 0) → Type 0
IfStopped (Done totals) P = Unit {0}
IfStopped (Stopped kept jobs) P = P kept jobs
IfStopped KeepFault P = Unit {0}

-- ---- short of the end

-- more jobs of the portion than the budget were missing
abbrev pub IsOver : Option ℕ → (ℕ → Bool) → List (Option Outcome) → Type 0
IsOver budget portion board = (most : ℕ) × (budget ≡ Some most) × (most < length (due portion board))

-- jobs are left: those of the portion within the budget are fewer than all that were missing
abbrev pub IsShort : Option ℕ → (ℕ → Bool) → List (Option Outcome) → Type 0
IsShort budget portion board = length (within_budget budget (due portion board)) < length (missing board)

-- jobs are left, the board has as many outcomes more as the portion's jobs within the budget, and this is the number of its jobs
pub record IsStopped (budget : Option ℕ) (portion : ℕ → Bool) (board : List (Option Outcome)) (kept jobs : ℕ) : Type 0 where
  pub short : IsShort budget portion board
  pub kept_is : kept ≡ kept_of board + length (within_budget budget (due portion board))
  pub jobs_is : jobs ≡ length board
