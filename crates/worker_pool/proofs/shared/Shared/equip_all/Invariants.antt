use Rattle.std.proofs.Common.{◌≡◌, length}
use Rattle.std.specs.Prelude.{All}
use Rattle.worker_pool.specs.Crews.{IsIdle, taken_by_all}
use Rattle.worker_pool.proofs.shared.Shared.equip_all.Given as goal

abbrev pub invariant-loop-place : goal.invariant-loop-place
invariant-loop-place g l = record {
  long : length l.workers ≡ length l.fn.workers;
  idle : All (λ w. IsIdle l.self w) l.workers;
  taken : taken_by_all l.workers ≡ taken_by_all l.fn.workers;
}
