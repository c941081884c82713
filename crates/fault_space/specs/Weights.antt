-- The weights of a case's jobs.
use Rattle.std.specs.Prelude.{◌≡◌, ◌+◌, length, sum_by}
use Rattle.fs_model.specs.declared.sites.Job.{Job}
use Rattle.fs_model.specs.Case.{CaseData}
use Rattle.fs_model.specs.AccessLog.{log}
use Rattle.fs_model.specs.Job.{jobs_of}
use Rattle.fs_model.specs.Site.{sites_of}

-- with its dead sites they are all its sites
abbrev pub WholeCase : Type 0
WholeCase = (c : CaseData) → sum_by (λ (job : Job). job.weight) (jobs_of (log c)).list + (jobs_of (log c)).dead ≡ length (sites_of c)
