use Rattle.std.proofs.Common.{arith}
use Rattle.experiment.proofs.JobSites.{some_steps}
use Rattle.worker_pool.proofs.shared.Shared.worker.Goals as goal

pub nearest-requires : goal.nearest-requires
nearest-requires g c =
    let s = c.args.self.now in
    omega (arith, some_steps s.case.now s.golden.now c.requires.shared.golden_is, c.requires.shared.snaps_count)
