use Rattle.std.proofs.Common.{ap, arith}
use Rattle.snapshot_store.specs.Stored.{SnapsData}
use Rattle.experiment.proofs.JobSites.{some_steps}
use Rattle.campaign.proofs.ready.take_machines.Goals as goal

pub nearest-requires : goal.nearest-requires
nearest-requires g c =
    let some = some_steps c.args.case.now c.args.golden.now c.requires.golden in
    let count = ap (λ (s : SnapsData). s.count) c.in_ok-snaps.ensures in
    omega (arith, some, count, c.count.ensures.value)
