-- The job of a site, by its number.
use Rattle.std.specs.Prelude.{ℕ, ◌≡◌, ◌+◌, ◌<◌, ◌≤◌, Option, Some, None, List, slice_get}
use Rattle.fs_model.specs.declared.sites.Site.{Site}
use Rattle.fs_model.specs.declared.sites.Job.{Job}
use Rattle.fs_model.specs.Cell.{bits, first_cell}
use Rattle.fs_model.specs.AccessLog.{AccessLog, job_of}
use Rattle.fs_model.specs.Job.{site_of}

-- the site is one of the fault space of the log
pub record IsOfSpace (l : AccessLog) (site : Site) : Type 0 where
  pub early : site.cycle < l.cycles
  pub low : first_cell l.pc ≤ site.cell
  pub in_cells : site.cell < 32 + l.ram
  pub in_bits : site.bit < bits site.cell

-- the number of the job that the site belongs to, and none exactly where the site is dead
abbrev pub IsJobNumber : AccessLog → List Job → Site → Option ℕ → Type 0
IsJobNumber l list site (Some number) = (job : Job) × (slice_get list number ≡ Some job) × (job_of l site ≡ Some (site_of job))
IsJobNumber l list site None = job_of l site ≡ None
