-- What a command makes of a campaign file.
use Rattle.std.specs.Prelude.{All, ◌≡◌, ℕ, Bool, true, false, List, [], Option, Some, Result, Ok, Err}
use Rattle.fs_model.specs.declared.outcomes.Outcome.{Outcome}
use Rattle.fs_model.specs.Card.{card}
use Rattle.fs_model.specs.Case.{CaseData}
use Rattle.fs_model.specs.Job.{HasOutcomes, jobs_in}
use Rattle.fs_model.specs.Outcome.{outcome}
use Rattle.fs_model.specs.Run.{golden}
use Rattle.golden_trace.specs.Goldens.{IsFault}
use Rattle.keep_format.specs.KeepFile.{FileRow, KeptFile, recorded}
use Rattle.result_keeper.specs.declared.refusals.KeepRefusal.{KeepRefusal}
use Rattle.result_keeper.specs.Acceptance.{accept, board_of, site_named}
use Rattle.audit.specs.Text.{audit_text, numbers_line}
use Rattle.def_use.specs.Board.{kept_of}
use Rattle.campaign.specs.Perform.{IsShort, IsStopped}
use Rattle.command_line.specs.declared.commands.Format.{Format}
use Rattle.phases.specs.Baselines.{Halts}
use Rattle.phases.specs.Reports.{kept_report, run_report}
use Rattle.kept_commands.specs.Run.{Portion}
use Rattle.phases.specs.declared.status.Status.{Status}
use Rattle.phases.specs.declared.status.Status.TheVariants as status

-- ---- the board

-- the board that a file gives for a case, or its first refusal; a file that is started again gives a blank one
abbrev pub opening : Bool → List ℕ → CaseData → Result (List (Option Outcome)) KeepRefusal
opening true file c = Ok (board_of (jobs_in c) [])
opening false file c = accept file c

-- ---- how a command ends by its file

-- it runs all jobs that are missing
pub record Finishes (fresh : Bool) (portion : Portion) (file : List ℕ) (c : CaseData) : Type 0 where
  pub board : List (Option Outcome)
  pub opened : opening fresh file c ≡ Ok board
  pub within : IsShort portion.budget portion.jobs board → ⊥

-- it does not, and then this many of the jobs have an outcome
pub record StopsShort (fresh : Bool) (portion : Portion) (file : List ℕ) (c : CaseData) (kept jobs : ℕ) : Type 0 where
  pub board : List (Option Outcome)
  pub opened : opening fresh file c ≡ Ok board
  pub stopped : IsStopped portion.budget portion.jobs board kept jobs

-- what the file has to do with an answer
abbrev pub KeepEnds : Bool → Portion → List ℕ → CaseData → Status → Type 0
KeepEnds fresh portion file c (status.BadKeep refusal) = opening fresh file c ≡ Err refusal
KeepEnds fresh portion file c (status.Stopped kept jobs) = StopsShort fresh portion file c kept jobs
KeepEnds fresh portion file c status.Done = Finishes fresh portion file c
KeepEnds fresh portion file c status.WriteFault = Finishes fresh portion file c
KeepEnds fresh portion file c status.StoreFault = Finishes fresh portion file c
KeepEnds fresh portion file c answer = Unit {0}

-- the golden run halts, and the file ends the work so where the disk tells it
abbrev pub EndsByFile : Type 0 → Bool → Portion → List ℕ → CaseData → Status → Type 0
EndsByFile tells fresh portion file c answer = Halts c × (tells → KeepEnds fresh portion file c answer)

-- how the work on a case and its file may end
abbrev pub IsKeepCause : Type 0 → Bool → Portion → List ℕ → CaseData → Status → Type 0
IsKeepCause tells fresh portion file c (status.BadGolden fault) = IsFault fault c.limit (golden c)
IsKeepCause tells fresh portion file c status.KeepFault = EndsByFile tells fresh portion file c status.KeepFault
IsKeepCause tells fresh portion file c (status.BadKeep refusal) = EndsByFile tells fresh portion file c (status.BadKeep refusal)
IsKeepCause tells fresh portion file c (status.Stopped kept jobs) = EndsByFile tells fresh portion file c (status.Stopped kept jobs)
IsKeepCause tells fresh portion file c status.Done = EndsByFile tells fresh portion file c status.Done
IsKeepCause tells fresh portion file c status.WriteFault = EndsByFile tells fresh portion file c status.WriteFault
IsKeepCause tells fresh portion file c status.NoMemory = Unit {0}
IsKeepCause tells fresh portion file c answer = ⊥

-- how the work from a board on may end
abbrev pub EndsFrom : Portion → List (Option Outcome) → Status → Type 0
EndsFrom portion board status.KeepFault = Unit {0}
EndsFrom portion board (status.Stopped kept jobs) = IsStopped portion.budget portion.jobs board kept jobs
EndsFrom portion board status.Done = IsShort portion.budget portion.jobs board → ⊥
EndsFrom portion board status.WriteFault = IsShort portion.budget portion.jobs board → ⊥
EndsFrom portion board status.NoMemory = Unit {0}
EndsFrom portion board answer = ⊥

-- ---- what is written

-- `run` writes the counts of the board with its blanks filled,
abbrev pub RunSays : Format → Bool → List ℕ → CaseData → List ℕ → Type 0
RunSays asked fresh file c text =
    (board : List (Option Outcome)) × (opening fresh file c ≡ Ok board) × (text ≡ run_report asked c board)

-- and `report` those of the board as it is, or each job
abbrev pub ReportSays : Format → Bool → List ℕ → CaseData → List ℕ → Type 0
ReportSays asked fresh file c text =
    (board : List (Option Outcome)) × (opening fresh file c ≡ Ok board) × (text ≡ kept_report asked c board)

-- and `audit` the outcomes of the board as it is that are wrong
abbrev pub AuditSays : List ℕ → CaseData → List ℕ → Type 0
AuditSays file c text =
    (board : List (Option Outcome)) × (opening false file c ≡ Ok board) × (text ≡ audit_text c board)

-- how many jobs of a case have an outcome in a file; in one that is refused none has
abbrev pub kept_on : Result (List (Option Outcome)) KeepRefusal → ℕ
kept_on (Ok board) = kept_of board
kept_on (Err refusal) = 0

-- the text of an audit that finds nothing wrong
abbrev pub sound_audit : List ℕ → CaseData → List ℕ
sound_audit file c = numbers_line (kept_on (opening false file c)) 0

-- Each outcome on the board that a file gives is that of its job's site. So it is of a sound file, and of one in which `audit`
-- finds nothing wrong.
abbrev pub GivesRight : List ℕ → CaseData → Type 0
GivesRight file c = (board : List (Option Outcome)) → accept file c ≡ Ok board → HasOutcomes (outcome c) (jobs_in c) board

-- A row of a file has the outcome of its site. A row of an older version of the format has no outcome.
abbrev pub HasRightOutcome : CaseData → FileRow → Type 0
HasRightOutcome c row = (o : Outcome) → row.outcome ≡ Some o → o ≡ outcome c (site_named row)

-- Each row that a file records for this case has the outcome of its site.
abbrev pub HasRightRows : List ℕ → CaseData → Type 0
HasRightRows file c = (found : KeptFile) → recorded file ≡ Ok found → found.card ≡ card c → All (HasRightOutcome c) found.rows

-- The outcomes that a command takes from its file are right. If it starts the file again, it takes none.
abbrev pub IsTrusted : Bool → List ℕ → CaseData → Type 0
IsTrusted fresh file c = fresh ≡ false → HasRightRows file c

-- If a file gives a board to a case, its rows are right exactly if the outcomes on the board are.
abbrev pub RowsAndBoards : Type 0
RowsAndBoards = (c : CaseData) (file : List ℕ) (board : List (Option Outcome)) → accept file c ≡ Ok board
    → (HasRightRows file c → HasOutcomes (outcome c) (jobs_in c) board) × (HasOutcomes (outcome c) (jobs_in c) board → HasRightRows file c)

-- with these answers the disk reads as before
abbrev pub LeavesKeep : Status → Type 0
LeavesKeep status.KeepFault = ⊥
LeavesKeep (status.Stopped kept jobs) = ⊥
LeavesKeep status.Done = ⊥
LeavesKeep status.WriteFault = ⊥
LeavesKeep status.NoMemory = ⊥
LeavesKeep answer = Unit {0}

-- a disk in memory fails for want of memory alone
abbrev pub as_memory : Status → Status
as_memory status.KeepFault = status.NoMemory
as_memory answer = answer
