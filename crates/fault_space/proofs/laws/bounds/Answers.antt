use Rattle.fault_space.proofs.Bounded.{few_cells, few_jobs, all_jobs, in_limit, job_limit, site_limit}
use Rattle.fault_space.proofs.laws.bounds.Goals as goal

pub returns-clause-cells : goal.returns-clause-cells
returns-clause-cells c = few_cells

pub returns-clause-jobs : goal.returns-clause-jobs
returns-clause-jobs c = few_jobs

pub returns-clause-all : goal.returns-clause-all
returns-clause-all c = all_jobs

pub returns-clause-cycles : goal.returns-clause-cycles
returns-clause-cycles c = in_limit

pub returns-clause-limit : goal.returns-clause-limit
returns-clause-limit c = job_limit

pub returns-clause-sites : goal.returns-clause-sites
returns-clause-sites c = site_limit
