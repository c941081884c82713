-- The text of the answers: a line for each job that has one of the outcomes that are asked for.
use Rattle.std.specs.Prelude.{ℕ, ◌==◌, Bool, false, if◌then◌else◌, List, [], Option, Some, None, drop, zip}
use Rattle.std.specs.List.{flat_map, list_any}
use Rattle.fs_model.specs.declared.outcomes.Outcome.{Outcome}
use Rattle.fs_model.specs.declared.sites.Job.{Job}
use Rattle.fs_model.specs.Case.{CaseData}
use Rattle.fs_model.specs.Job.{jobs_in}
use Rattle.fs_model.specs.Outcome.{number_of}
use Rattle.run_answers.specs.Line.{answer_line}

-- the outcome is one of these
abbrev pub is_asked : List Outcome → Outcome → Bool
is_asked chosen kept = list_any (λ o. number_of o == number_of kept) chosen

-- the line of a job by the outcome that is recorded of it: none if that is missing or not chosen
abbrev pub chosen_line : CaseData → List Outcome → Job → Option Outcome → List ℕ
chosen_line c chosen job None = []
chosen_line c chosen job (Some kept) = if is_asked chosen kept then answer_line c job else []

-- the outcome that is recorded is one of these
abbrev pub is_place_asked : List Outcome → Option Outcome → Bool
is_place_asked chosen None = false
is_place_asked chosen (Some kept) = is_asked chosen kept

abbrev pub row_line : CaseData → List Outcome → Job × Option Outcome → List ℕ
row_line c chosen row = chosen_line c chosen row.0 row.1

-- the lines of all jobs with a chosen outcome on the board, in the order of the jobs
abbrev pub answers_text : CaseData → List (Option Outcome) → List Outcome → List ℕ
answers_text c board chosen = flat_map (row_line c chosen) (zip (jobs_in c) board)

-- the lines of the jobs from a number on
abbrev pub lines_behind : CaseData → List (Option Outcome) → List Outcome → ℕ → List ℕ
lines_behind c board chosen from = flat_map (row_line c chosen) (drop from (zip (jobs_in c) board))
