-- What a call leaves of its campaign file: at each moment, whatever crashes then, and at its end.
use Rattle.std.specs.Prelude.{◌≡◌, ◌⊎◌, ℕ, true, false, List}
use Rattle.fs_outside.specs.Past.{Past, IsImage, content}
use Rattle.fs_model.specs.Case.{CaseData}
use Rattle.command_line.specs.Request.{RequestData, command_in}
use Rattle.command_line.specs.Request as request
use Rattle.kept_commands.specs.Crash.{CrashStory, IsCutOff, IsWorkedOn, KeepsAtEnd}
use Rattle.kept_commands.specs.Merge.{IsMergeCutOff, IsMerging, UnionAtEnd}
use Rattle.kept_commands.specs.Run.{run_due}
use Rattle.result_keeper.specs.Acceptance.{IsSound}
use Rattle.command_line.specs.Commands.{names_other, writes_keep}
use Rattle.phases.specs.declared.status.Status.{Status}
use Rattle.phases.specs.declared.status.Status.TheVariants as status
use Rattle.kept_commands.specs.Call.{CallData}
use Rattle.kept_commands.specs.Causes.{Loads}
use Rattle.kept_commands.specs.Words.{Does, DoesNot, ContinuesFile, TellsImage, TellsOther, fresh_of}

-- what a crash left of the file of a command: what it might have left at entry, or what `run` or `merge` leaves
abbrev pub IsLeftAfter : Type 0 → RequestData → List ℕ → CaseData → Past → List ℕ → Type 0
IsLeftAfter sure (request.Run case campaign) other c old image = IsWorkedOn sure campaign.fresh (run_due campaign c) c old image
IsLeftAfter sure (request.Merge case merging) other c old image = IsMerging sure merging.page other c old image
IsLeftAfter sure settings other c old image = IsImage old image

-- the disk failed while `run` or `merge` opened the file, or appended to it
abbrev pub IsCutOffBy : RequestData → List ℕ → CaseData → Past → Past → Type 0
IsCutOffBy (request.Run case campaign) other c old now = IsCutOff campaign.fresh (run_due campaign c) c old now
IsCutOffBy (request.Merge case merging) other c old now = IsMergeCutOff merging.page other c old now
IsCutOffBy settings other c old now = ⊥

-- what an answer of a command on a case says of its file
abbrev pub LeftAtEnd : RequestData → List ℕ → CaseData → Past → Past → Status → Type 0
LeftAtEnd settings other c old now answer =
    KeepsAtEnd (IsCutOffBy settings other c old now) (content now ≡ content old) c now answer

-- the other file of a merge is told,
abbrev pub IsTold : RequestData → Type 0 → Type 0
IsTold settings told = names_other (command_in settings) ≡ true → told

-- and sound
abbrev pub IsGiven : RequestData → Type 0 → List ℕ → Type 0
IsGiven settings told other = names_other (command_in settings) ≡ true → told × IsSound other

abbrev pub WorkStory : Type 0 → RequestData → List ℕ → CaseData → Past → Past → Status → Type 0
WorkStory told settings other c old new answer =
    CrashStory (IsTold settings told) (IsGiven settings told other)
    (writes_keep (command_in settings) ≡ false) (fresh_of settings ≡ false)
    (λ sure. IsLeftAfter sure settings other c old)
    (writes_keep (command_in settings) ≡ true → LeftAtEnd settings other c old new answer) old new answer

-- the words are a line, the image is that of a case, and a crash left this while the command was carried out on it
pub record IsLeftByCall (sure : Type 0) (call : CallData) (old : Past) (image : List ℕ) : Type 0 where
  pub case : CaseData
  pub loads : Loads call case
  pub left : IsLeftAfter sure loads.settings call.files.other case old image

-- the words are a line, the image is that of a case, and a command that writes keeps what its answer says
pub record EndsByWriting (call : CallData) (old now : Past) (answer : Status) : Type 0 where
  pub case : CaseData
  pub loads : Loads call case
  pub keeps : writes_keep (command_in loads.settings) ≡ true → LeftAtEnd loads.settings call.files.other case old now answer

-- These answers come of a case alone. So does want of memory, where the file does not read as before.
abbrev pub EndsBy : CallData → Past → Past → Status → Type 0
EndsBy call old now status.Done = EndsByWriting call old now status.Done
EndsBy call old now status.WriteFault = EndsByWriting call old now status.WriteFault
EndsBy call old now (status.Stopped kept jobs) = EndsByWriting call old now (status.Stopped kept jobs)
EndsBy call old now status.KeepFault = EndsByWriting call old now status.KeepFault
EndsBy call old now status.NoMemory = (content now ≡ content old) ⊎ EndsByWriting call old now status.NoMemory
EndsBy call old now answer = Unit {0}

-- the other file that the words name, if they do, is told, and sound
abbrev pub GivesOther : CallData → Type 0 → Type 0
GivesOther call told = Does names_other call.said → told × IsSound call.files.other

-- A line was carried out: a crash left what it might have left at entry, or what the words and the image say, where
-- the image tells its bytes. `tells` says that the image does, and `told` that the other file does.
abbrev pub CallStory : Type 0 → Type 0 → CallData → Past → Past → Status → Type 0
CallStory tells told call old new answer =
    CrashStory (TellsOther call.said told) (GivesOther call told) (DoesNot writes_keep call.said) (ContinuesFile call.said)
    (λ sure image. IsImage old image ⊎ (TellsImage call.said tells → IsLeftByCall sure call old image))
    (TellsImage call.said tells → EndsBy call old new answer) old new answer

-- The words are those of a merge, OTHER is sound and the old rows of the first file are right, and both give boards
-- of the case that was asked for: with an answer of the report, each crash from now on leaves a file that gives both
-- boards together.
abbrev pub MergesBoth : CallData → Past → Past → Status → Type 0
MergesBoth call old new answer =
    (c : CaseData) (loads : Loads call c) → names_other (command_in loads.settings) ≡ true
    → UnionAtEnd call.files.other c old new answer
