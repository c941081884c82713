-- The table of a case's jobs.
use Rattle.std.proofs.Common.{◌≡◌, ap}
use Rattle.fs_model.specs.AccessLog.{dead, log}
use Rattle.fs_model.specs.Case.{CaseData}
use Rattle.fs_model.specs.Job.{JobTable, job_list, jobs_of}

-- the list of a case's table
pub list_of : (c : CaseData) (table : JobTable) → table ≡ jobs_of (log c) → table.list ≡ job_list (log c)
unfolding jobs_of
list_of c table e = ap (λ (t : JobTable). t.list) e

pub dead_of : (c : CaseData) (table : JobTable) → table ≡ jobs_of (log c) → table.dead ≡ dead (log c)
unfolding jobs_of
dead_of c table e = ap (λ (t : JobTable). t.dead) e
