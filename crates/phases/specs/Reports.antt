-- What reports say of a case: of all its sites, and of a board that a campaign file gives.
use Rattle.std.specs.Prelude.{ℕ, ◌+◌, if◌then◌else◌, List, [], length, Option}
use Rattle.fs_model.specs.declared.outcomes.Outcome.{Outcome}
use Rattle.fs_model.specs.declared.outcomes.Outcome.TheVariants.{NoEffect}
use Rattle.fs_model.specs.AccessLog.{log, dead}
use Rattle.fs_model.specs.Case.{CaseData}
use Rattle.fs_model.specs.Filling.{board_total, board_filled}
use Rattle.fs_model.specs.Job.{jobs_in}
use Rattle.fs_model.specs.Outcome.{count, outcome, same_outcome}
use Rattle.fs_model.specs.Run.{cycles}
use Rattle.fs_model.specs.Site.{sites_of}
use Rattle.report.specs.Text.{text, json, jobs_csv}
use Rattle.result_keeper.specs.Acceptance.{board_of}
use Rattle.command_line.specs.declared.commands.Format.{Format}
use Rattle.command_line.specs.declared.commands.Format.TheVariants as format

-- ---- of all sites

-- a report in a format; it has no columns to separate
abbrev pub report_in : Format → ℕ → ℕ → (Outcome → ℕ) → List ℕ
report_in format.Text cycles sites counts = text cycles sites counts
report_in format.Json cycles sites counts = json cycles sites counts
report_in format.Csv cycles sites counts = text cycles sites counts

-- The report of a case: the number of instructions of its golden run, the number of its sites, and how many sites have each
-- outcome, each by a run of its own from the first instruction.
abbrev pub report_of : Format → CaseData → List ℕ
report_of asked c = report_in asked (cycles c) (length (sites_of c)) (count c)

-- ---- of a board

-- the weights on a board by their outcomes, with the dead sites beside those without effect
abbrev pub board_totals : CaseData → List (Option Outcome) → Outcome → ℕ
board_totals c board o = board_total (jobs_in c) board o + (if same_outcome NoEffect o then dead (log c) else 0)

-- the counts that a board gives, in a format
abbrev pub board_report : Format → CaseData → List (Option Outcome) → List ℕ
board_report asked c board = report_in asked (cycles c) (length (sites_of c)) (board_totals c board)

-- the same of the board with its blanks filled
abbrev pub run_report : Format → CaseData → List (Option Outcome) → List ℕ
run_report asked c board = board_report asked c (board_filled (outcome c) (jobs_in c) board)

-- the counts of a board, or each job with its outcome
abbrev pub kept_report : Format → CaseData → List (Option Outcome) → List ℕ
kept_report format.Text c board = board_report format.Text c board
kept_report format.Json c board = board_report format.Json c board
kept_report format.Csv c board = jobs_csv (jobs_in c) board

-- ---- of a whole campaign

-- each job with the outcome of its site
abbrev pub true_board : CaseData → List (Option Outcome)
true_board c = board_filled (outcome c) (jobs_in c) (board_of (jobs_in c) [])

-- the report of a whole campaign: the counts, or each job
abbrev pub report_of_kept : Format → CaseData → List ℕ
report_of_kept format.Text c = report_of format.Text c
report_of_kept format.Json c = report_of format.Json c
report_of_kept format.Csv c = jobs_csv (jobs_in c) (true_board c)
