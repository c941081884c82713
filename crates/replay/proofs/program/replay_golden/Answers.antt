use Rattle.phases.proofs.SiteCauses.{of_writing}
use Rattle.replay.proofs.program.replay_golden.Goals as goal

pub returns-in-None-clause-cause : goal.returns-in-None-clause-cause
returns-in-None-clause-cause g c = of_writing c.args.case.now c.args.golden.now c.args.sites.now c.write_sites.result c.requires c.in-None.ensures.none c.write_sites.ensures.ends
