-- What each command writes of a case.
use Rattle.std.specs.Prelude.{◌≡◌, ℕ, false, List}
use Rattle.fs_model.specs.Case.{CaseData}
use Rattle.command_line.specs.Request.{RequestData}
use Rattle.command_line.specs.Request as request
use Rattle.command_line.specs.declared.commands.Format.TheVariants.{Text as AsText}
use Rattle.elf_symbols.specs.declared.tables.Symbol.{Symbol}
use Rattle.phases.specs.Reports.{report_of_kept, report_of}
use Rattle.plain_commands.specs.Plans.{plan_by}
use Rattle.plain_commands.specs.Trace.{trace_text}
use Rattle.kept_commands.specs.Keep.{AuditSays, ReportSays, RunSays, sound_audit}
use Rattle.kept_commands.specs.Merge.{MergeSays}
use Rattle.kept_commands.specs.Sample.{sample_of}
use Rattle.kept_commands.specs.Symbols.{SymbolsSays, symbols_text_of}
use Rattle.kept_commands.specs.Files.{Files}

-- What a command writes, where what its files give is right: of an audit that nothing is wrong, of the others a text of
-- the case and of its image's symbols alone. `run`, `merge`, `brute` and `demo` write the same.
abbrev pub output_of : RequestData → List Symbol → Files → CaseData → List ℕ
output_of (request.Run case campaign) symbols files c = report_of campaign.format c
output_of (request.Report case format) symbols files c = report_of_kept format c
output_of (request.Audit case) symbols files c = sound_audit files.file c
output_of (request.Merge case merging) symbols files c = report_of merging.format c
output_of (request.Symbols case) symbols files c = symbols_text_of c symbols
output_of (request.Brute case format) symbols files c = report_of format c
output_of (request.Trace case) symbols files c = trace_text c
output_of (request.Plan case format) symbols files c = plan_by format c
output_of (request.Sample case draws) symbols files c = sample_of draws c
output_of (request.Demo case program) symbols files c = report_of AsText c

-- What a command says of a case and its files: `run` the counts of the board with its blanks filled, `report` those of
-- the board as it is, `symbols` these by the image's symbols, `merge` those of both files' boards together, `audit`
-- which of its outcomes are wrong. The others look at no file.
abbrev pub Says : RequestData → List Symbol → Files → CaseData → List ℕ → Type 0
Says (request.Run case campaign) symbols files c text = RunSays campaign.format campaign.fresh files.file c text
Says (request.Report case format) symbols files c text = ReportSays format false files.file c text
Says (request.Audit case) symbols files c text = AuditSays files.file c text
Says (request.Merge case merging) symbols files c text = MergeSays merging.format files.file files.other c text
Says (request.Symbols case) symbols files c text = SymbolsSays symbols files.file c text
Says settings symbols files c text = text ≡ output_of settings symbols files c
