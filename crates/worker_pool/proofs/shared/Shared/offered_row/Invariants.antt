use Rattle.std.proofs.Common.{◌≡◌, take}
use Rattle.std.specs.Prelude.{flat_map}
use Rattle.job_queue.specs.Pages.{times_among}
use Rattle.job_queue.specs.Hands.{claims_of}
use Rattle.worker_pool.proofs.shared.Shared.offered_row.Given as goal

abbrev pub invariant-loop-worker : goal.invariant-loop-worker
invariant-loop-worker g l = times_among l.number (flat_map (λ w. claims_of w.hand) (take l.worker-index l.workers)) ≡ 0
