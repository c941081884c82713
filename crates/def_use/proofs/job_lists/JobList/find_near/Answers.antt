use Rattle.def_use.proofs.Search.{nowhere}
use Rattle.def_use.proofs.job_lists.JobList.find_near.Goals as goal

pub returns-in-None : goal.returns-in-None
returns-in-None c = rw (← c.self.view_is) (nowhere c.self.inside.reads.items _ c.args.cycle c.args.cell c.args.bit c.as_slice-reads.ensures.value c.in-None.ensures.value)
