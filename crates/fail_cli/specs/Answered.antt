-- What holds of each answer of a call, by its words, its image and its campaign files.
use Rattle.std.specs.Prelude.{◌≡◌, ◌⊎◌, ℕ, List, Some, None}
use Rattle.fs_outside.specs.Past.{Past}
use Rattle.command_line.specs.Said.{CaseLineData}
use Rattle.command_line.specs.Request.{CampaignData}
use Rattle.command_line.specs.Request as request
use Rattle.command_line.specs.declared.commands.Format.TheVariants.{Text as AsText}
use Rattle.phases.specs.declared.status.Status.{Status}
use Rattle.phases.specs.declared.status.Status.TheVariants as status
use Rattle.kept_commands.specs.Call.{CallData}
use Rattle.kept_commands.specs.Causes.{IsCause}
use Rattle.kept_commands.specs.Words.{TellsFiles, TellsImage}
use Rattle.fail_cli.specs.Counts.{HasWritten, TakesRight, case_report}
use Rattle.fail_cli.specs.Crash.{CallStory, MergesBoth}
use Rattle.fail_cli.specs.Run.{Reports, ReportsPart}
use Rattle.fail_cli.specs.TrueTexts.{TrueTexts}

-- A call had this answer. `before` and `after` are the bytes that its output took until the call began, and until it
-- ended; `old` and `new` are its campaign file before and after the call. Four types say which devices tell their
-- bytes: the image (`tells_image`), the campaign file (`tells_file`), the other campaign file (`tells_other`), and
-- the output (`tells_out`).
pub record IsAnswered (tells_image tells_file tells_other tells_out : Type 0) (call : CallData) (before after : List ℕ)
    (old new : Past) (answer : Status) : Type 0 where
  -- An answer is given only if it has its cause.
  pub cause : TellsImage call.said tells_image → IsCause tells_file tells_other call answer
  -- Usage is given only if the words are no line, and then it is given, unless memory ran out.
  pub usage : answer ≡ status.Usage → call.said ≡ None
  pub no_line : call.said ≡ None → (answer ≡ status.Usage) ⊎ (answer ≡ status.NoMemory)
  -- Done of `run`: if each row that the campaign file has for the case gives the outcome of its site, or the file is
  -- started again, the report has for each outcome the number of sites whose own run from the first instruction has it.
  pub counts : tells_image → tells_file → tells_out → answer ≡ status.Done
      → (case : CaseLineData) (campaign : CampaignData) → call.said ≡ Some (request.Run case campaign) → campaign.format ≡ AsText
      → TakesRight case call.image campaign.fresh call.files.file → HasWritten case call.image case_report before after
  -- Done: the same of `run` in every format, and of each other command what it writes if its files are right.
  pub texts : tells_out → answer ≡ status.Done → TrueTexts tells_image tells_file tells_other call before after
  -- Done: whatever the file, the report is what the command prints for the board that the file gives.
  pub report : TellsImage call.said tells_image → tells_out → TellsFiles call.said tells_file tells_other
      → answer ≡ status.Done → Reports call before after
  -- WriteFault: the output took a part of this report.
  pub part : TellsImage call.said tells_image → tells_out → TellsFiles call.said tells_file tells_other
      → answer ≡ status.WriteFault → ReportsPart call before after
  -- The content of the campaign file after a crash at any moment, and at the end. Only `run` and `merge` write to it,
  -- and a refused call leaves its content as it was. It stays sound if the file that is merged is sound. It keeps its
  -- rows unless it is started again; the jobs that it records stay recorded, whatever is merged. Both commands append
  -- whole pages in order. They answer Done only if each job is kept, and otherwise Stopped with the number of jobs
  -- that are. After a fault of the disk, the pages whose appends succeeded stay.
  pub story : tells_file → CallStory tells_image tells_other call old new answer
  -- If a merge reports, OTHER is sound, and the old rows of the campaign file are right, the file keeps both boards.
  pub union : tells_image → tells_file → tells_other → MergesBoth call old new answer
