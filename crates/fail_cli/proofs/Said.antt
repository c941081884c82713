-- What a command says of a case and its file is what it writes of the case alone, if the files give right outcomes.
use Rattle.std.proofs.Common.{◌≡◌, ℕ, true, false, List, refl}
use Rattle.fs_model.specs.Case.{CaseData}
use Rattle.command_line.specs.Request.{RequestData, command_in}
use Rattle.command_line.specs.Request as request
use Rattle.elf_symbols.specs.declared.tables.Symbol.{Symbol}
use Rattle.command_line.specs.Commands.{names_keep, names_other}
use Rattle.kept_commands.specs.Keep.{Finishes, GivesRight}
use Rattle.kept_commands.proofs.Trusted.{audit_right, report_text, run_text}
use Rattle.kept_commands.proofs.BySymbols.{symbols_text_is}
use Rattle.kept_commands.proofs.Merged.{merge_text}
use Rattle.kept_commands.specs.Merge.{answer_for, both_boards}
use Rattle.phases.specs.declared.status.Status.TheVariants as status
use Rattle.kept_commands.specs.Files.{Files}
use Rattle.fail_cli.specs.Output.{Says, output_of}
use Rattle.kept_commands.specs.Words.{portion_asked, fresh_of}

pub said_text : (c : CaseData) (settings : RequestData) (symbols : List Symbol) (files : Files) (text : List ℕ) → Says settings symbols files c text
    → (names_keep (command_in settings) ≡ true → fresh_of settings ≡ false → GivesRight files.file c) → (names_other (command_in settings) ≡ true → GivesRight files.other c)
    → (names_keep (command_in settings) ≡ true → names_other (command_in settings) ≡ false → Finishes (fresh_of settings) (portion_asked settings) files.file c)
    → (names_other (command_in settings) ≡ true → answer_for (both_boards files.file files.other c) ≡ status.Done) → text ≡ output_of settings symbols files c
said_text c (request.Run case campaign) symbols files text says trust right ends merges = run_text c campaign.format campaign.fresh files.file text says (trust refl)
said_text c (request.Report case format) symbols files text says trust right ends merges = report_text c format false files.file text says (trust refl) (ends refl refl)
said_text c (request.Audit case) symbols files text says trust right ends merges = audit_right c files.file text says (trust refl refl)
said_text c (request.Symbols case) symbols files text says trust right ends merges = symbols_text_is c symbols files.file text says (trust refl refl) (ends refl refl)
said_text c (request.Merge case merging) symbols files text says trust right ends merges = merge_text c merging.format files.file files.other text says (trust refl refl) (right refl) (merges refl)
said_text c settings symbols files text says trust right ends merges = says
