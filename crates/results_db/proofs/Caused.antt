-- What an export ends with on a case is a cause of that answer for its words, and what it stores is of the case that they ask for.
use Rattle.std.proofs.Common.{◌≡◌, ◌⊎◌, ℕ, false, List, [], Some, None, refl, ap, subst, ◌∙◌}
use Rattle.std.specs.Prelude.{option_map}
use Rattle.fs_model.specs.Case.{CaseData}
use Rattle.fs_model.specs.Job.{jobs_in}
use Rattle.fs_model.specs.Outcome.{outcome}
use Rattle.row_store.specs.declared.rows.ExportRow.{ExportRow}
use Rattle.command_line.specs.Line.{CaseLineData, Text, export_line}
use Rattle.phases.specs.Loading.{LoadsBy}
use Rattle.phases.specs.declared.status.Status.{Status}
use Rattle.phases.specs.declared.status.Status.TheVariants as status
use Rattle.kept_commands.specs.Keep.{GivesRight}
use Rattle.kept_commands.proofs.Trusted.{open_long, board_right}
use Rattle.phases.proofs.Outputs.{IsSilent}
use Rattle.kept_commands.specs.Call.{CallData}
use Rattle.kept_commands.specs.Causes.{IsCause, Loads}
use Rattle.kept_commands.proofs.OneAnswer.{loaded_case, of_case, with_file}
use Rattle.results_db.specs.Export.{Exports, ExportsTruly, IsExported, asks, export_call}
use Rattle.results_db.specs.Stories.{AreRowsIn, IsExportCause}
use Rattle.results_db.proofs.Ends.{silent_stored}
use Rattle.results_db.proofs.RowLists.{rows_right}

module _ (words : List Text) (image file : List ℕ) (asked_case : CaseLineData) (c : CaseData) (e : export_line words ≡ Some asked_case) (h : LoadsBy asked_case image c) where
  abbrev pub loads : Loads (export_call words image file) c
  loads = loaded_case (export_call words image file) (asks asked_case) c [] (ap (option_map asks) e) h refl

  pub of_export : (tells : Type 0) (answer : Status) → IsExportCause tells file c answer → IsCause tells (Unit {0}) (export_call words image file) answer
  of_export tells status.StoreFault k = with_file tells (Unit {0}) (export_call words image file) c loads status.StoreFault refl refl refl k.0 k.1
  of_export tells answer k = of_case tells (Unit {0}) (export_call words image file) c loads answer k

  -- ---- the rows

  pub exports : (rows : List ExportRow) → AreRowsIn file c rows → Exports (export_call words image file) rows
  exports rows made = record { case = c; loads = loads; board = made.board; opened = made.opened; whole = made.are.whole; rows_are = made.are.rows_are; each = made.are.each }

  pub exports_truly : (rows : List ExportRow) → GivesRight file c → AreRowsIn file c rows → ExportsTruly (export_call words image file) rows
  exports_truly rows right made = record {
    case = c;
    loads = loads;
    rows_are = made.are.rows_are
        ∙ rows_right (outcome c) 0 (jobs_in c) made.board (open_long c false file made.board made.opened) (board_right c false file made.board made.opened (λ _. right)) made.are.whole;
  }

-- ---- answers before the rows

-- nothing was stored, and nothing was written
pub unexported : (tells_image tells tells_rows tells_out : Type 0) (call : CallData) (stored : List ExportRow) (before after : List ℕ) (answer : Status) → IsSilent answer
    → (tells_image → IsCause tells (Unit {0}) call answer) → (answer ≡ status.Usage → call.said ≡ None) → (call.said ≡ None → (answer ≡ status.Usage) ⊎ (answer ≡ status.NoMemory))
    → IsExported tells_image tells tells_rows tells_out call stored before after answer
unexported tells_image tells tells_rows tells_out call stored before after answer silent cause usage no_line = record {
  cause = cause;
  usage = usage;
  no_line = no_line;
  rows = λ image file store is. absurd (silent_stored answer silent is);
  right = λ image file store is sound. absurd (silent_stored answer silent is);
  said = λ image out done. absurd (subst IsSilent done silent);
  part = λ image out failed. absurd (subst IsSilent failed silent);
}
