-- The rows of an export: a row for each job with its outcome.
use Rattle.std.specs.Prelude.{ℕ, List, [], ◌∷◌, ◌++◌, map, Option, Some, None, codes, decimal}
use Rattle.fs_model.specs.declared.outcomes.Outcome.{Outcome}
use Rattle.fs_model.specs.declared.sites.Job.{Job}
use Rattle.fs_model.specs.Case.{CaseData}
use Rattle.fs_model.specs.Job.{jobs_in, site_of}
use Rattle.fs_model.specs.Outcome.{outcome}
use Rattle.row_store.specs.declared.rows.ExportRow.{ExportRow}

abbrev pub export_row : Job → Outcome → ExportRow
export_row job o = record { cycle = job.cycle; cell = job.cell; bit = job.bit; weight = job.weight; outcome = o }

-- the rows of jobs with their outcomes on a board; a blank place has none
unfoldable pub rows_by : List Job → List (Option Outcome) → List ExportRow
rows_by [] board = []
rows_by (job ∷ jobs) [] = []
rows_by (job ∷ jobs) (None ∷ board) = rows_by jobs board
rows_by (job ∷ jobs) (Some o ∷ board) = export_row job o ∷ rows_by jobs board

-- a row for each job of a case, in their order, with the outcome of its site's own run from the first instruction
abbrev pub true_rows : CaseData → List ExportRow
true_rows c = map (λ job. export_row job (outcome c (site_of job))) (jobs_in c)

-- what the output is told of this many rows
abbrev pub exported_text : ℕ → List ℕ
exported_text count = codes "exported " ++ (decimal count ++ codes "\n")
