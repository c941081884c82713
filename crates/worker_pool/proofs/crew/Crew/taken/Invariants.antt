use Rattle.std.proofs.Common.{◌≡◌, take}
use Rattle.worker_pool.specs.Crews.{taken_by_all}
use Rattle.worker_pool.proofs.crew.Crew.taken.Given as goal

abbrev pub invariant-loop-worker : goal.invariant-loop-worker
invariant-loop-worker g l = l.taken ≡ taken_by_all (take l.worker-index l.worker-items)
