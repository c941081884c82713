-- What a board says of the sites of its jobs, right or not.
use Rattle.std.specs.Prelude.{ℕ, ◌≡◌, ◌+◌, Bool, if◌then◌else◌, Option, Some, None, List, [], ◌∷◌, slice_get}
use Rattle.fs_model.specs.declared.sites.Site.{Site}
use Rattle.fs_model.specs.declared.sites.Job.{Job}
use Rattle.fs_model.specs.declared.outcomes.Outcome.{Outcome}
use Rattle.fs_model.specs.declared.outcomes.Outcome.TheVariants.{NoEffect}
use Rattle.fs_model.specs.Site.{same_site}
use Rattle.fs_model.specs.AccessLog.{AccessLog}
use Rattle.fs_model.specs.Job.{site_of, job_list, HasOutcomes}
use Rattle.fs_model.specs.Filling.{share}

-- the weights of the jobs that pass and have the outcome on the board, added up
abbrev pub board_where : (Site → Bool) → List Job → List (Option Outcome) → Outcome → ℕ
board_where live [] board o = 0
board_where live (job ∷ jobs) [] o = 0
board_where live (job ∷ jobs) (place ∷ board) o = (if live (site_of job) then share job place o else 0) + board_where live jobs board o

abbrev pub outcome_or_none : Option Outcome → Outcome
outcome_or_none None = NoEffect
outcome_or_none (Some o) = o

-- the outcome on the board of the job that has the site
unfoldable pub on_board : List Job → List (Option Outcome) → Site → Outcome
on_board [] board site = NoEffect
on_board (job ∷ jobs) [] site = NoEffect
on_board (job ∷ jobs) (place ∷ board) site = if same_site (site_of job) site then outcome_or_none place else on_board jobs board site

-- no two jobs have one site
abbrev pub IsOnce : List Job → Type 0
IsOnce list = (i j : ℕ) (a b : Job) → slice_get list i ≡ Some a → slice_get list j ≡ Some b → site_of a ≡ site_of b → i ≡ j

-- so each board has outcomes for the sites of its jobs
abbrev pub OnBoard : Type 0
OnBoard = (list : List Job) (board : List (Option Outcome)) → IsOnce list → HasOutcomes (on_board list board) list board

-- the jobs of a log have different sites
abbrev pub Once : Type 0
Once = (l : AccessLog) → IsOnce (job_list l)
