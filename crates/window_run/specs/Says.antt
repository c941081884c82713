-- What a call of `fail_window` writes.
use Rattle.std.specs.Prelude.{◌≡◌, ◌≢◌, ℕ, ◌+◌, Bool, if◌then◌else◌, List, length, Option, Ok}
use Rattle.fs_outside.specs.Faults.{IsCaused}
use Rattle.fs_model.specs.declared.outcomes.Outcome.{Outcome}
use Rattle.fs_model.specs.declared.outcomes.Outcome.TheVariants.{NoEffect}
use Rattle.fs_model.specs.AccessLog.{log}
use Rattle.fs_model.specs.Case.{CaseData}
use Rattle.fs_model.specs.Filling.{board_filled, board_total}
use Rattle.fs_model.specs.Job.{jobs_in}
use Rattle.fs_model.specs.Outcome.{outcome, same_outcome}
use Rattle.fs_model.specs.Run.{cycles}
use Rattle.report.specs.Text.{window_json, window_text}
use Rattle.result_keeper.specs.Acceptance.{accept}
use Rattle.window_counts.specs.Windows.{clipped_jobs, window_count, window_dead, window_len, window_sites}
use Rattle.window_parts.specs.Parts.{IsPartWindow}
use Rattle.elf_symbols.specs.declared.tables.Symbol.{Symbol}
use Rattle.command_line.specs.declared.commands.Format.{Format}
use Rattle.command_line.specs.declared.commands.Format.TheVariants as format
use Rattle.command_line.specs.Window.{WindowLineData}
use Rattle.phases.specs.Output.{Wrote, WrotePart}
use Rattle.phases.specs.Status.{is_write_fault}
use Rattle.phases.specs.declared.status.Status.TheVariants as status
use Rattle.window_run.specs.WindowStatus.{is_ended_by}
use Rattle.window_run.specs.declared.status.WindowStatus.{WindowStatus}
use Rattle.window_run.specs.declared.status.WindowStatus.TheVariants.{Ended}

-- ---- texts

abbrev pub window_text_in : Format → ℕ → ℕ → ℕ → (Outcome → ℕ) → List ℕ
window_text_in format.Text cycles inside sites counts = window_text cycles inside sites counts
window_text_in format.Json cycles inside sites counts = window_json cycles inside sites counts
window_text_in format.Csv cycles inside sites counts = window_text cycles inside sites counts

-- how many instructions the golden run has, how many of them are in the window, how many sites these have, and these counts
abbrev pub window_report : Format → CaseData → List Bool → (Outcome → ℕ) → List ℕ
window_report asked c window counts = window_text_in asked (cycles c) (window_len window) (length (window_sites c window)) counts

-- how many of the sites have each outcome, each by a run of its own from the first instruction
abbrev pub true_window_report : Format → CaseData → List Bool → List ℕ
true_window_report asked c window = window_report asked c window (window_count c window)

-- ---- of a board

-- the clipped weights on a board by their outcomes; to those without effect, the dead sites of the window are added
abbrev pub window_totals : CaseData → List Bool → List (Option Outcome) → Outcome → ℕ
window_totals c window board o =
    board_total (clipped_jobs window (jobs_in c)) board o + (if same_outcome NoEffect o then window_dead (log c) window else 0)

abbrev pub board_report_in : Format → CaseData → List Bool → List (Option Outcome) → List ℕ
board_report_in asked c window board = window_report asked c window (window_totals c window board)

-- the same of the board with its blanks filled
abbrev pub filled_report_in : Format → CaseData → List Bool → List (Option Outcome) → List ℕ
filled_report_in asked c window board = board_report_in asked c window (board_filled (outcome c) (jobs_in c) board)

-- the counts in the window of the board that the file gives, with its blanks filled
abbrev pub WindowSays : Format → List Bool → List ℕ → CaseData → List ℕ → Type 0
WindowSays asked window file c text =
    (board : List (Option Outcome)) × (accept file c ≡ Ok board) × (text ≡ filled_report_in asked c window board)

-- ---- of the part that a line asks for

-- the window of the part, and such a text of it
pub record PartSays (line : WindowLineData) (symbols : List Symbol) (file : List ℕ) (c : CaseData) (text : List ℕ) : Type 0 where
  pub window : List Bool
  pub part : IsPartWindow line.part symbols c window
  pub says : WindowSays line.running.format window file c text

-- The output, where it tells its bytes: it took all of such a text where the counts were written, a part where the output failed, and
-- nothing with any other answer.
pub record PartOutput {T : Type 0} (tells tells_out : Type 0) (taken : T → List ℕ) (faults : T → ℕ) (line : WindowLineData) (symbols : List Symbol)
    (file : List ℕ) (c : CaseData) (old new : T) (answer : WindowStatus) : Type 0 where
  pub whole : tells → tells_out → answer ≡ Ended status.Done → Wrote (PartSays line symbols file c) (taken old) (taken new)
  pub part : tells → tells_out → answer ≡ Ended status.WriteFault → WrotePart (PartSays line symbols file c) (taken old) (taken new)
  pub nothing : answer ≢ Ended status.Done → answer ≢ Ended status.WriteFault → new ≡ old
  pub cause : IsCaused (is_ended_by is_write_fault answer) (faults old) (faults new)
