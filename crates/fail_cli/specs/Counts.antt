-- What the output takes of a case if the outcomes in the campaign file are right.
use Rattle.std.specs.Prelude.{◌≡◌, ℕ, Bool, List, ◌++◌, length}
use Rattle.fs_model.specs.Case.{CaseData}
use Rattle.fs_model.specs.Outcome.{count}
use Rattle.fs_model.specs.Run.{cycles}
use Rattle.fs_model.specs.Site.{sites_of}
use Rattle.report.specs.Text.{text}
use Rattle.command_line.specs.Said.{CaseLineData}
use Rattle.phases.specs.Baselines.{Halts}
use Rattle.phases.specs.Loading.{LoadsBy}
use Rattle.kept_commands.specs.Keep.{IsTrusted}

-- The counts of a case, as text: the number of instructions of its golden run, the number of its fault sites, and for
-- each outcome the number of sites whose own run from the first instruction has it.
abbrev pub case_report : CaseData → List ℕ
case_report c = text (cycles c) (length (sites_of c)) (count c)

-- The image, with the map, limit and flags of the line, is that of a case. The golden run of the case halts, and the
-- output took what is said of the case.
pub record HasWritten (asked : CaseLineData) (image : List ℕ) (said : CaseData → List ℕ) (before after : List ℕ)
    : Type 0 where
  pub case : CaseData
  pub loads : LoadsBy asked image case
  pub halts : Halts case
  pub written : after ≡ before ++ said case

-- The outcomes that a command takes from this file are right for the case of the image. If it starts the file again, it
-- takes none.
abbrev pub TakesRight : CaseLineData → List ℕ → Bool → List ℕ → Type 0
TakesRight asked image fresh file = (c : CaseData) → LoadsBy asked image c → IsTrusted fresh file c
