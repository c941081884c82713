-- The sites that a seed draws, and the jobs that they belong to.
use Rattle.std.specs.Prelude.{ℕ, ◌-◌, nat_lt, Bool, true, false, if◌then◌else◌, Option, Some, None, List, [], ◌∷◌, length, filter, sum_by, slice_get}
use Rattle.std.specs.List.{list_any, filter_map}
use Rattle.fs_model.specs.declared.sites.Site.{Site}
use Rattle.fs_model.specs.declared.sites.Job.{Job}
use Rattle.fs_model.specs.declared.outcomes.Outcome.{Outcome}
use Rattle.fs_model.specs.Case.{CaseData}
use Rattle.fs_model.specs.Run.{cycles}
use Rattle.fs_model.specs.Site.{sites_of}
use Rattle.fs_model.specs.Outcome.{outcome, same_outcome}
use Rattle.fs_model.specs.AccessLog.{log, job_of, is_job}
use Rattle.fs_model.specs.Job.{site_of, jobs_in}
use Rattle.experiment.specs.Jobs.{steps_of_job}
use Rattle.sampling.specs.Draws.{indices, seeded}

-- ---- which sites are drawn

-- how many sites there are to draw from: all, or the live ones
abbrev pub population : CaseData → Bool → ℕ
population c false = length (sites_of c)
population c true = sum_by (λ (job : Job). job.weight) (jobs_in c)

-- the site that represents the live site of this index: each job takes as many indices as its weight, in order, and its own site represents them
unfoldable pub live_site : List Job → ℕ → Option Site
live_site [] index = None
live_site (job ∷ jobs) index = if nat_lt index job.weight then Some (site_of job) else live_site jobs (index - job.weight)

-- the site of this index
abbrev pub site_of_index : CaseData → Bool → ℕ → Option Site
site_of_index c false index = slice_get (sites_of c) index
site_of_index c true index = live_site (jobs_in c) index

-- the sites that a seed draws; one that is drawn again stands there again
unfoldable pub drawn_sites : CaseData → Bool → ℕ → ℕ → List Site
drawn_sites c live seed count = filter_map (site_of_index c live) (indices count (population c live) (seeded seed))

-- how many of these sites have the outcome
unfoldable pub count_in : CaseData → List Site → Outcome → ℕ
count_in c sites o = length (filter (λ site. same_outcome (outcome c site) o) sites)

-- ---- what it takes

-- one of these sites belongs to the job
unfoldable pub is_drawn : CaseData → List Site → Job → Bool
is_drawn c sites job = list_any (λ site. is_job (job_of (log c) site) (site_of job)) sites

-- the jobs that these sites belong to, each once
unfoldable pub jobs_drawn : CaseData → List Site → List Job
jobs_drawn c sites = filter (is_drawn c sites) (jobs_in c)

-- their steps
unfoldable pub steps_of_drawn : CaseData → ℕ → List Site → ℕ
steps_of_drawn c spacing sites = sum_by (steps_of_job c spacing (cycles c)) (jobs_drawn c sites)
