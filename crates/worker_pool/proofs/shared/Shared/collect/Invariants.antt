use Rattle.std.proofs.Common.{◌≡◌, take, vec_capacity}
use Rattle.worker_pool.specs.Workers.{rows_run}
use Rattle.worker_pool.proofs.shared.Shared.collect.Given as goal

abbrev pub invariant-loop-place : goal.invariant-loop-place
invariant-loop-place g l = record {
  along : l.walk ≡ l.self.list.now;
  rows : l.rows.items ≡ rows_run l.self (take l.place l.numbers);
  room : vec_capacity l.rows ≡ vec_capacity l.fn.rows;
}
