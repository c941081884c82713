use Rattle.std.proofs.Common.{◌≡◌, ◌+◌, length, vec_len}
use Rattle.std.specs.Prelude.{All, sum_by}
use Rattle.job_queue.specs.Hands.{page_size_of}
use Rattle.result_desk.specs.Tally.{new_tally}
use Rattle.worker_pool.specs.Workers.{shared_case, taken_of}
use Rattle.worker_pool.specs.Crews.{IsIdle, AreNumbered}
use Rattle.worker_pool.proofs.shared.Shared.add_workers.Given as goal

abbrev pub invariant-loop-hand : goal.invariant-loop-hand
invariant-loop-hand g l = record {
  count : vec_len l.tallies + length l.yielded ≡ vec_len l.fn.hands;
  number : l.number ≡ length l.yielded;
  numbers : AreNumbered l.workers.items;
  total : vec_len l.workers ≡ length l.yielded;
  tallies : All (λ t. t ≡ new_tally (shared_case l.self) (page_size_of l.self.jobs)) l.tallies.items;
  taken : sum_by (λ w. taken_of w) l.workers.items ≡ 0;
  workers : All (λ w. IsIdle l.self w) l.workers.items;
}
