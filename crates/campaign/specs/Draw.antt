-- One draw: what is found for an index, and what its run leaves.
use Rattle.std.specs.Prelude.{ℕ, ◌≡◌, Option, Some, None, List, slice_get, slice_set}
use Rattle.fs_model.specs.declared.sites.Site.{Site}
use Rattle.fs_model.specs.declared.sites.Job.{Job}
use Rattle.fs_model.specs.declared.outcomes.Outcome.{Outcome}
use Rattle.fs_model.specs.declared.outcomes.Outcome.TheVariants.{NoEffect}
use Rattle.fs_model.specs.Case.{CaseData}
use Rattle.fs_model.specs.Run.{cycles}
use Rattle.fs_model.specs.Outcome.{outcome}
use Rattle.fs_model.specs.AccessLog.{log}
use Rattle.fs_model.specs.Job.{site_of, jobs_in, jobs_of, JobTable, IsSameLog}
use Rattle.experiment.specs.Jobs.{steps_of_job}
use Rattle.snapshot_store.specs.Along.{Rose}
use Rattle.access_log.specs.LogData.{LogData, log_in}
use Rattle.def_use.specs.Board.{place_at}
use Rattle.def_use.specs.SiteJobs.{IsOfSpace, IsJobNumber}

-- the log says of each cell what the run of the case does
abbrev pub IsLogOf : CaseData → LogData → Type 0
IsLogOf c l = IsSameLog (log_in l) (log c)

-- the jobs are those of the case
abbrev pub AreJobsOf : CaseData → JobTable → Type 0
AreJobsOf c table = table ≡ jobs_of (log c)

-- the number is that of the job of a site
pub record IsDraw (c : CaseData) (site : Site) (number : Option ℕ) : Type 0 where
  pub space : IsOfSpace (log c) site
  pub number_is : IsJobNumber (log c) (jobs_in c) site number

-- a job is run where the board has no outcome for it
abbrev pub steps_if_blank : Option Outcome → ℕ → ℕ
steps_if_blank None steps = steps
steps_if_blank (Some o) steps = 0

-- the outcome of the job of this number, which the board has now, and the machine has run the job if the board had none
pub record IsDrawRun (c : CaseData) (spacing : ℕ) (job : Job) (number : ℕ) (o : Outcome) (old new : List (Option Outcome)) (before after : ℕ) : Type 0 where
  pub outcome_is : o ≡ outcome c (site_of job)
  pub board : new ≡ slice_set old number (Some o)
  pub taken : Rose before (steps_if_blank (place_at old number) (steps_of_job c spacing (cycles c) job)) after

-- the same of a draw: a dead site has no effect
abbrev pub IsDrawn : CaseData → ℕ → Option ℕ → Outcome → List (Option Outcome) → List (Option Outcome) → ℕ → ℕ → Type 0
IsDrawn c spacing None o old new before after = (o ≡ NoEffect) × (new ≡ old) × (after ≡ before)
IsDrawn c spacing (Some number) o old new before after = (job : Job)
    → slice_get (jobs_in c) number ≡ Some job → IsDrawRun c spacing job number o old new before after
