-- What holds of each answer of a call of `fail_window`, by its words, its image and its campaign file.
use Rattle.std.specs.Prelude.{◌≡◌, ◌≢◌, ◌⊎◌, ℕ, ◌++◌, Bool, List, None}
use Rattle.fs_outside.specs.Past.{Past, IsImage, content}
use Rattle.fs_model.specs.Case.{CaseData}
use Rattle.window_parts.specs.Parts.{IsPartWindow}
use Rattle.phases.specs.Output.{Wrote, WrotePart}
use Rattle.phases.specs.declared.status.Status.{Status}
use Rattle.phases.specs.declared.status.Status.TheVariants as status
use Rattle.kept_commands.specs.Crash.{CrashStory}
use Rattle.kept_commands.specs.Keep.{GivesRight}
use Rattle.window_run.specs.Call.{WindowCall}
use Rattle.window_run.specs.Causes.{IsCauseInWindow, LoadsPart}
use Rattle.window_run.specs.Crash.{IsLeftInPart, PartEnds}
use Rattle.window_run.specs.Says.{PartSays, true_window_report}
use Rattle.window_run.specs.declared.status.WindowStatus.{WindowStatus}
use Rattle.window_run.specs.declared.status.WindowStatus.TheVariants.{Ended, Empty}

-- ---- what is written

-- each outcome in the campaign file is that of its job's site, as those of an empty file are, of a sound one, and of one in which
-- `audit` finds nothing wrong
abbrev pub TrustsFile : WindowCall → Type 0
TrustsFile call = (c : CaseData) → LoadsPart call c → GivesRight call.file c

-- The output took, for the part that is asked for, the number of its instructions and sites, and for each outcome the number of its
-- sites whose own run from the first instruction has it.
pub record CountsPart (call : WindowCall) (before after : List ℕ) : Type 0 where
  pub case : CaseData
  pub loads : LoadsPart call case
  pub window : List Bool
  pub part : IsPartWindow loads.settings.part loads.symbols case window
  pub written : after ≡ before ++ true_window_report loads.settings.running.format case window

-- it took the counts by the board that the file gives, with its blanks filled,
pub record ReportsPartOf (call : WindowCall) (before after : List ℕ) : Type 0 where
  pub case : CaseData
  pub loads : LoadsPart call case
  pub wrote : Wrote (PartSays loads.settings loads.symbols call.file case) before after

-- or a part of that text
pub record ReportsPiece (call : WindowCall) (before after : List ℕ) : Type 0 where
  pub case : CaseData
  pub loads : LoadsPart call case
  pub wrote : WrotePart (PartSays loads.settings loads.symbols call.file case) before after

-- ---- what is left of the campaign file

-- a crash left this while the jobs of the part were run
pub record IsLeftByWindow (sure : Type 0) (call : WindowCall) (old : Past) (image : List ℕ) : Type 0 where
  pub case : CaseData
  pub loads : LoadsPart call case
  pub left : IsLeftInPart sure loads.settings loads.symbols case old image

-- what an answer says of the file, if a case was loaded
pub record EndsOfPart (call : WindowCall) (old now : Past) (answer : Status) : Type 0 where
  pub case : CaseData
  pub loads : LoadsPart call case
  pub ends : PartEnds loads.settings loads.symbols case old now answer

abbrev pub WindowEnds : WindowCall → Past → Past → Status → Type 0
WindowEnds call old now status.Done = EndsOfPart call old now status.Done
WindowEnds call old now status.WriteFault = EndsOfPart call old now status.WriteFault
WindowEnds call old now (status.Stopped kept jobs) = EndsOfPart call old now (status.Stopped kept jobs)
WindowEnds call old now status.KeepFault = EndsOfPart call old now status.KeepFault
WindowEnds call old now status.NoMemory = (content now ≡ content old) ⊎ EndsOfPart call old now status.NoMemory
WindowEnds call old now answer = Unit {0}

-- Nothing befell the file if no instruction is in the part. Otherwise a crash left what it might have left at entry, or what the words and
-- the image say, where the image tells its bytes.
abbrev pub WindowCallStory : Type 0 → WindowCall → Past → Past → WindowStatus → Type 0
WindowCallStory tells call old new (Ended answer) =
    CrashStory (Unit {0}) (Unit {0}) ⊥ (Unit {0}) (λ sure image. IsImage old image ⊎ (tells → IsLeftByWindow sure call old image))
    (tells → WindowEnds call old new answer) old new answer
WindowCallStory tells call old new (Empty why) = new ≡ old

-- ---- all of it

-- A call had this answer. `before` and `after` are the bytes that its output took until the call began, and until it ended; `old` and
-- `new` are its campaign file before and after the call. Three types say which devices tell their bytes: the image (`tells_image`), the
-- campaign file (`tells_file`), and the output (`tells_out`).
pub record IsRunInWindow (tells_image tells_file tells_out : Type 0) (call : WindowCall) (before after : List ℕ) (old new : Past)
    (answer : WindowStatus) : Type 0 where
  -- An answer is given only if it has its cause.
  pub cause : tells_image → IsCauseInWindow tells_file call answer
  -- Usage is given only if the words are no line, and then it is given, unless memory ran out.
  pub usage : answer ≡ Ended status.Usage → call.said ≡ None
  pub no_line : call.said ≡ None → (answer ≡ Ended status.Usage) ⊎ (answer ≡ Ended status.NoMemory)
  -- Done: if the outcomes in the campaign file are right, the report has for each outcome the number of the part's sites whose own run
  -- has it.
  pub counts : tells_image → tells_file → tells_out → answer ≡ Ended status.Done → TrustsFile call → CountsPart call before after
  -- Done: whatever the file, the report is what is printed for the board that the file gives.
  pub report : tells_image → tells_file → tells_out → answer ≡ Ended status.Done → ReportsPartOf call before after
  -- WriteFault: the output took a part of this report.
  pub part : tells_image → tells_file → tells_out → answer ≡ Ended status.WriteFault → ReportsPiece call before after
  -- The content of the campaign file after a crash at any moment, and at the end. A refused call leaves its content as it was. It keeps its
  -- rows, and whole pages of the due jobs are appended in order. Done is answered only if each due job is kept.
  pub story : tells_file → WindowCallStory tells_image call old new answer
