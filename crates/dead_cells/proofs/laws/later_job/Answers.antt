use Rattle.dead_cells.proofs.Known.{later_site, later_job}
use Rattle.dead_cells.proofs.laws.later_job.Goals as goal

pub returns-clause-site : goal.returns-clause-site
returns-clause-site c = later_site

pub returns-clause-job : goal.returns-clause-job
returns-clause-job c = later_job
