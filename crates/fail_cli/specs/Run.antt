-- What a call leaves on its output, by its words, its image and its campaign files.
use Rattle.std.specs.Prelude.{◌≡◌, ℕ, true, false, List, ◌++◌}
use Rattle.fs_model.specs.Case.{CaseData}
use Rattle.command_line.specs.Commands.{names_keep, names_other}
use Rattle.command_line.specs.Request.{command_in}
use Rattle.phases.specs.Commands.{Serves}
use Rattle.phases.specs.Output.{Wrote, WrotePart}
use Rattle.kept_commands.specs.Keep.{GivesRight}
use Rattle.kept_commands.specs.Call.{CallData}
use Rattle.kept_commands.specs.Causes.{Loads}
use Rattle.kept_commands.specs.Words.{fresh_of}
use Rattle.fail_cli.specs.Output.{Says, output_of}

-- The outcomes that the command takes from its files are right: each is on the board that its file gives. So are those
-- of sound files, and of files in which `audit` finds nothing wrong.
abbrev pub Trusts : CallData → Type 0
Trusts call = (c : CaseData) (loads : Loads call c)
    → (names_keep (command_in loads.settings) ≡ true → fresh_of loads.settings ≡ false → GivesRight call.files.file c)
    × (names_other (command_in loads.settings) ≡ true → GivesRight call.files.other c)

-- what the command says of the case that was asked for, and of its file, follows what the output took before
pub record Reports (call : CallData) (before after : List ℕ) : Type 0 where
  pub case : CaseData
  pub loads : Loads call case
  pub serves : Serves (command_in loads.settings) case
  pub wrote : Wrote (Says loads.settings loads.symbols call.files case) before after

-- a part of that does
pub record ReportsPart (call : CallData) (before after : List ℕ) : Type 0 where
  pub case : CaseData
  pub loads : Loads call case
  pub serves : Serves (command_in loads.settings) case
  pub wrote : WrotePart (Says loads.settings loads.symbols call.files case) before after

-- what the command writes if its file is right is there: for each outcome the number of sites that have it,
-- and of a sample the number of draws whose site has it
pub record Counts (call : CallData) (before after : List ℕ) : Type 0 where
  pub case : CaseData
  pub loads : Loads call case
  pub serves : Serves (command_in loads.settings) case
  pub written : after ≡ before ++ output_of loads.settings loads.symbols call.files case
