-- Rows that are put on a board.
use Rattle.std.specs.Prelude.{◌≡◌, ℕ, List, [], ◌∷◌, Option, Some, None, slice_get}
use Rattle.fs_model.specs.declared.sites.Job.{Job}
use Rattle.fs_model.specs.declared.outcomes.Outcome.{Outcome}
use Rattle.fs_model.specs.declared.outcomes.Row.{Row}
use Rattle.fs_model.specs.Job.{site_of}
use Rattle.fs_model.specs.Verdict.{site_of_row}
use Rattle.result_keeper.specs.Acceptance.{outcome_in}

-- an outcome as it is, or else this one
abbrev pub or_else : Option Outcome → Option Outcome → Option Outcome
or_else None other = other
or_else (Some outcome) other = Some outcome

-- each place as it was, or where that is blank the outcome of the first row of its job's site
abbrev pub filed : List Job → List (Option Outcome) → List Row → List (Option Outcome)
filed [] board rows = []
filed (job ∷ list) [] rows = []
filed (job ∷ list) (place ∷ board) rows = or_else place (outcome_in rows (site_of job)) ∷ filed list board rows

-- the row names a job that is blank on the board
pub record IsBlankJob (list : List Job) (board : List (Option Outcome)) (row : Row) : Type 0 where
  pub number : ℕ
  pub job : Job
  pub there : slice_get list number ≡ Some job
  pub named : site_of job ≡ site_of_row row
  pub blank : slice_get board number ≡ Some None

-- each row names a job that is blank when its turn comes: so all are jobs that are blank on the board, no two the same
abbrev pub AreFileable : List Job → List (Option Outcome) → List Row → Type 0
AreFileable list board [] = Unit {0}
AreFileable list board (row ∷ rows) = IsBlankJob list board row × AreFileable list (filed list board (row ∷ [])) rows

-- no two jobs have one site
abbrev pub IsOnce : List Job → Type 0
IsOnce list = (i j : ℕ) (a b : Job) → slice_get list i ≡ Some a → slice_get list j ≡ Some b → site_of a ≡ site_of b → i ≡ j
