-- What a call of `fail_window` leaves of its campaign file: at each moment, whatever crashes then, and at its end.
use Rattle.std.specs.Prelude.{◌≡◌, ◌⊎◌, ℕ, Bool, false, List, Option}
use Rattle.fs_outside.specs.Past.{Past, content, EachImage, IsImage}
use Rattle.fs_model.specs.declared.outcomes.Outcome.{Outcome}
use Rattle.fs_model.specs.declared.outcomes.Row.{Row}
use Rattle.fs_model.specs.Case.{CaseData}
use Rattle.keep_format.specs.KeepFile.{rows_held}
use Rattle.result_keeper.specs.Acceptance.{HasRightOldRows}
use Rattle.result_keeper.specs.Keep.{Gives, KeeperData}
use Rattle.elf_symbols.specs.declared.tables.Symbol.{Symbol}
use Rattle.window_parts.specs.Parts.{IsPartWindow}
use Rattle.command_line.specs.Window.{WindowLineData}
use Rattle.phases.specs.declared.status.Status.{Status}
use Rattle.phases.specs.declared.status.Status.TheVariants as status
use Rattle.kept_commands.specs.Crash.{CrashStory, GivesSome, HoldsUpTo, IsCutOff, IsWorkedOn, KeepsPages}
use Rattle.window_run.specs.Ends.{HasEachDue, window_batches}
use Rattle.window_run.specs.declared.status.WindowStatus.{WindowStatus}
use Rattle.window_run.specs.declared.status.WindowStatus.TheVariants.{Ended, Empty}

-- ---- at the end

-- whatever a crash leaves from now on gives one board, on which each job that is due in the window has an outcome
pub record GivesEachDue (window : List Bool) (c : CaseData) (now : Past) : Type 0 where
  pub board : List (Option Outcome)
  pub images : EachImage now (Gives c board)
  pub each : HasEachDue window c board

-- What an answer says of the file: all due jobs, or this many jobs of the case; if the disk failed, `cut`; and where memory ran out,
-- `same`, or all due jobs.
abbrev pub KeepsDueAtEnd : Type 0 → Type 0 → List Bool → CaseData → Past → Status → Type 0
KeepsDueAtEnd cut same window c now status.Done = GivesEachDue window c now
KeepsDueAtEnd cut same window c now status.WriteFault = GivesEachDue window c now
KeepsDueAtEnd cut same window c now (status.Stopped kept jobs) = GivesSome c now kept
KeepsDueAtEnd cut same window c now status.KeepFault = cut
KeepsDueAtEnd cut same window c now status.NoMemory = same ⊎ GivesEachDue window c now
KeepsDueAtEnd cut same window c now answer = Unit {0}

-- ---- the whole story

-- pages of rows were appended to a file that was opened, and gave the keeper's board
abbrev pub DuePagesStory : KeeperData → List (List Row) → List Bool → Past → Past → Status → Type 0
DuePagesStory keeper pages window old new answer =
    CrashStory (Unit {0}) (Unit {0}) ⊥ (Unit {0}) (λ sure. KeepsPages sure pages old)
    (Gives keeper.case keeper.board (content old)
    → KeepsDueAtEnd (HoldsUpTo (EachImage old HasRightOldRows) (rows_held (content old)) pages new) ⊥ window keeper.case new answer) old new answer

-- a file was opened, or begun if it was empty, and pages of rows that follow from its board were appended to it
abbrev pub WindowStory : (List (Option Outcome) → List (List Row)) → List Bool → CaseData → Past → Past → Status → Type 0
WindowStory due window c old new answer =
    CrashStory (Unit {0}) (Unit {0}) ⊥ (Unit {0}) (λ sure. IsWorkedOn sure false due c old)
    (KeepsDueAtEnd (IsCutOff false due c old new) (content new ≡ content old) window c new answer) old new answer

-- ---- of the part that a line asks for

-- a crash left what it might have left at entry, or the rows of the first pages of the part's due jobs more
pub record IsLeftInPart (sure : Type 0) (line : WindowLineData) (symbols : List Symbol) (c : CaseData) (old : Past) (image : List ℕ) : Type 0 where
  pub window : List Bool
  pub part : IsPartWindow line.part symbols c window
  pub left : IsWorkedOn sure false (window_batches line.running window c) c old image

-- what an answer says of the file, for the window of the part
pub record EndsInPart (line : WindowLineData) (symbols : List Symbol) (c : CaseData) (old now : Past) (answer : Status) : Type 0 where
  pub window : List Bool
  pub part : IsPartWindow line.part symbols c window
  pub keeps : KeepsDueAtEnd (IsCutOff false (window_batches line.running window c) c old now) (content now ≡ content old) window c now answer

-- These answers come of a window. So does want of memory, where the file does not read as before.
abbrev pub PartEnds : WindowLineData → List Symbol → CaseData → Past → Past → Status → Type 0
PartEnds line symbols c old now status.Done = EndsInPart line symbols c old now status.Done
PartEnds line symbols c old now status.WriteFault = EndsInPart line symbols c old now status.WriteFault
PartEnds line symbols c old now (status.Stopped kept jobs) = EndsInPart line symbols c old now (status.Stopped kept jobs)
PartEnds line symbols c old now status.KeepFault = EndsInPart line symbols c old now status.KeepFault
PartEnds line symbols c old now status.NoMemory = (content now ≡ content old) ⊎ EndsInPart line symbols c old now status.NoMemory
PartEnds line symbols c old now answer = Unit {0}

-- With an answer as of the other programs, a crash left what it might have left at entry, or what the part says. Nothing befell the file
-- of a part without an instruction.
abbrev pub PartStory : WindowLineData → List Symbol → CaseData → Past → Past → WindowStatus → Type 0
PartStory line symbols c old new (Ended answer) =
    CrashStory (Unit {0}) (Unit {0}) ⊥ (Unit {0}) (λ sure image. IsImage old image ⊎ IsLeftInPart sure line symbols c old image)
    (PartEnds line symbols c old new answer) old new answer
PartStory line symbols c old new (Empty why) = new ≡ old
