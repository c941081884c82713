use Rattle.std.proofs.Common.{arith}
use Rattle.experiment.proofs.JobSites.{some_steps}
use Rattle.experiment.proofs.known_runs.KnownRuns.new.Goals as goal

pub nearest-start-requires : goal.nearest-start-requires
nearest-start-requires c =
    let r = c.args.reference.now in
    omega (arith, some_steps r.case.now r.golden.now r.golden_is, r.count_is)
