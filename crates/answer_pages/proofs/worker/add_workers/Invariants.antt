use Rattle.std.proofs.Common.{◌≡◌, vec_len}
use Rattle.std.specs.Prelude.{All}
use Rattle.answer_pages.specs.Workers.{IsWorkerIn}
use Rattle.answer_pages.proofs.worker.add_workers.Given as goal

abbrev pub invariant-loop-number : goal.invariant-loop-number
invariant-loop-number l = record {
  count : vec_len l.workers ≡ l.number;
  ready : All (λ w. IsWorkerIn l.case w) l.workers.items;
}
