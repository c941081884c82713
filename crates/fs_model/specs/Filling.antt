-- Boards, which hold an outcome or a blank for each job: what fills the blanks, and what a board counts.
use Rattle.std.specs.Prelude.{ℕ, ◌+◌, if◌then◌else◌, Option, Some, None, List, [], ◌∷◌}
use Rattle.fs_model.specs.declared.sites.Site.{Site}
use Rattle.fs_model.specs.declared.sites.Job.{Job}
use Rattle.fs_model.specs.declared.outcomes.Outcome.{Outcome}
use Rattle.fs_model.specs.Outcome.{same_outcome}
use Rattle.fs_model.specs.Job.{site_of}

-- a place with the outcome that it has, or else that of its job's site
abbrev pub filled_place : (Site → Outcome) → Job → Option Outcome → Option Outcome
filled_place outcomes job None = Some (outcomes (site_of job))
filled_place outcomes job (Some outcome) = Some outcome

-- the board of these jobs with its blanks filled
unfoldable pub board_filled : (Site → Outcome) → List Job → List (Option Outcome) → List (Option Outcome)
board_filled outcomes [] board = []
board_filled outcomes (job ∷ jobs) [] = []
board_filled outcomes (job ∷ jobs) (place ∷ board) = filled_place outcomes job place ∷ board_filled outcomes jobs board

-- the weight of a job, where its place has the outcome
abbrev pub share : Job → Option Outcome → Outcome → ℕ
share job None o = 0
share job (Some outcome) o = if same_outcome outcome o then job.weight else 0

-- the weights of the jobs that have the outcome on the board, added up
abbrev pub board_total : List Job → List (Option Outcome) → Outcome → ℕ
board_total [] board o = 0
board_total (job ∷ jobs) [] o = 0
board_total (job ∷ jobs) (place ∷ board) o = share job place o + board_total jobs board o
