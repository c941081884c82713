-- What each command wrote of the case of its image, if the outcomes in its campaign files are right.
use Rattle.std.specs.Prelude.{◌≡◌, ℕ, false, List, ◌++◌, Some, Ok}
use Rattle.fs_model.specs.Case.{CaseData}
use Rattle.command_line.specs.Said.{CaseLineData}
use Rattle.command_line.specs.Request.{CampaignData, DrawsData, MergingData, ProgramData}
use Rattle.command_line.specs.Request as request
use Rattle.command_line.specs.declared.commands.Format.{Format}
use Rattle.command_line.specs.declared.commands.Format.TheVariants.{Text as AsText}
use Rattle.elf_symbols.specs.declared.tables.Symbol.{Symbol}
use Rattle.elf_symbols.specs.Symbols.{symbols}
use Rattle.phases.specs.Demo.{demo_image}
use Rattle.phases.specs.Loading.{LoadsBy}
use Rattle.phases.specs.Reports.{report_of, report_of_kept}
use Rattle.plain_commands.specs.Plans.{plan_by}
use Rattle.plain_commands.specs.Trace.{trace_text}
use Rattle.kept_commands.specs.Call.{CallData}
use Rattle.kept_commands.specs.Keep.{sound_audit}
use Rattle.kept_commands.specs.Sample.{sample_of}
use Rattle.kept_commands.specs.Symbols.{symbols_text_of}
use Rattle.fail_cli.specs.Counts.{HasWritten, TakesRight}

-- A call ended with Done. `before` and `after` are the bytes that its output took until the call began, and until it
-- ended. Three types say which devices tell their bytes, as in `IsAnswered`.
pub record TrueTexts (tells_image tells_file tells_other : Type 0) (call : CallData) (before after : List ℕ)
    : Type 0 where
  -- `run`: the counts of the case, in the format that was asked for
  pub run : tells_image → tells_file → (case : CaseLineData) (campaign : CampaignData)
      → call.said ≡ Some (request.Run case campaign)
      → TakesRight case call.image campaign.fresh call.files.file
      → HasWritten case call.image (report_of campaign.format) before after
  -- `report`: the same counts, or each job with its outcome as comma-separated values
  pub report : tells_image → tells_file → (case : CaseLineData) (format : Format)
      → call.said ≡ Some (request.Report case format)
      → TakesRight case call.image false call.files.file
      → HasWritten case call.image (report_of_kept format) before after
  -- `audit`: no outcome in the file is wrong
  pub audit : tells_image → tells_file → (case : CaseLineData) → call.said ≡ Some (request.Audit case)
      → TakesRight case call.image false call.files.file
      → HasWritten case call.image (sound_audit call.files.file) before after
  -- `merge`: the same counts, if the outcomes in both files are right
  pub merge : tells_image → tells_file → tells_other → (case : CaseLineData) (merging : MergingData)
      → call.said ≡ Some (request.Merge case merging)
      → TakesRight case call.image false call.files.file → TakesRight case call.image false call.files.other
      → HasWritten case call.image (report_of merging.format) before after
  -- `symbols`: the counts of the sites of each function and each object of the image, and then those of all sites
  pub by_symbols : tells_image → tells_file → (case : CaseLineData) → call.said ≡ Some (request.Symbols case)
      → TakesRight case call.image false call.files.file
      → (list : List Symbol) × (symbols call.image ≡ Ok list)
      × HasWritten case call.image (λ c. symbols_text_of c list) before after
  -- `brute`: the same counts as `run`
  pub brute : tells_image → (case : CaseLineData) (format : Format) → call.said ≡ Some (request.Brute case format)
      → HasWritten case call.image (report_of format) before after
  -- `demo`: the same counts, of a program that it generates
  pub demo : (case : CaseLineData) (program : ProgramData) → call.said ≡ Some (request.Demo case program)
      → HasWritten case (demo_image program.seed program.blocks) (report_of AsText) before after
  -- `sample`: for each outcome the number of draws whose site has it, of exactly the sites that the seed draws
  pub sample : tells_image → (case : CaseLineData) (draws : DrawsData) → call.said ≡ Some (request.Sample case draws)
      → HasWritten case call.image (sample_of draws) before after
  -- `plan`: the jobs with their weights
  pub plan : tells_image → (case : CaseLineData) (format : Format) → call.said ≡ Some (request.Plan case format)
      → HasWritten case call.image (plan_by format) before after
  -- `trace`: the run without a flip, which need not halt
  pub trace : tells_image → (case : CaseLineData) → call.said ≡ Some (request.Trace case)
      → (c : CaseData) × LoadsBy case call.image c × (after ≡ before ++ trace_text c)
