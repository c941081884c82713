-- Counts of some of the sites: the live ones whose job passes a test, and the dead ones that pass another.
use Rattle.std.specs.Prelude.{ℕ, ◌&&◌, Bool, Option, Some, None, is_none, List, length, filter, sum_by}
use Rattle.fs_model.specs.declared.sites.Site.{Site}
use Rattle.fs_model.specs.declared.sites.Job.{Job}
use Rattle.fs_model.specs.declared.outcomes.Outcome.{Outcome}
use Rattle.fs_model.specs.declared.outcomes.Outcome.TheVariants.{NoEffect}
use Rattle.fs_model.specs.Cell.{bits}
use Rattle.fs_model.specs.Site.{cells}
use Rattle.fs_model.specs.Outcome.{same_outcome}
use Rattle.fs_model.specs.AccessLog.{AccessLog, all_sites, job_of}
use Rattle.fs_model.specs.Job.{site_of}

-- the answer for a live site by its job, and for a dead one
abbrev pub by_job : (Site → Bool) → Bool → Option Site → Bool
by_job live still None = still
by_job live still (Some job) = live job

-- a live site passes where its job does, and a dead one by a test of its own
unfoldable pub passes : AccessLog → (Site → Bool) → (Site → Bool) → Site → Bool
passes l live still site = by_job live (still site) (job_of l site)

-- how many of the sites that pass have the outcome
unfoldable pub count_where : AccessLog → (Site → Outcome) → (Site → Bool) → (Site → Bool) → Outcome → ℕ
count_where l outcomes live still o = length (filter (λ site. passes l live still site && same_outcome (outcomes site) o) (all_sites l))

-- how many dead sites pass
unfoldable pub dead_where : AccessLog → (Site → Bool) → ℕ
dead_where l still = length (filter (λ site. is_none (job_of l site) && still site) (all_sites l))

-- the weights of the jobs that pass and have the outcome, added up
unfoldable pub total_where : (Site → Bool) → (Site → Outcome) → List Job → Outcome → ℕ
total_where live outcomes list o =
    sum_by (λ (job : Job). job.weight) (filter (λ job. live (site_of job) && same_outcome (outcomes (site_of job)) o) list)

-- the weights of the jobs that pass
unfoldable pub weight_where : (Site → Bool) → List Job → ℕ
weight_where live list = sum_by (λ (job : Job). job.weight) (filter (λ job. live (site_of job)) list)

-- how many bits the cells have that pass
unfoldable pub bits_where : (ℕ → Bool) → ℕ → Bool → ℕ
bits_where q ram pc = sum_by bits (filter q (cells pc ram))

-- the outcomes of all sites, from those of the jobs: a live site has its job's, and a dead one no effect
abbrev pub outcome_from : (Site → Outcome) → Option Site → Outcome
outcome_from outcomes None = NoEffect
outcome_from outcomes (Some job) = outcomes job

unfoldable pub spread : AccessLog → (Site → Outcome) → Site → Outcome
spread l outcomes site = outcome_from outcomes (job_of l site)
