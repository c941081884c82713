use Rattle.std.proofs.Common.{◌≡◌, ◌<◌, ◌≤◌, ◌++◌, take, length}
use Rattle.std.specs.Prelude.{All}
use Rattle.answer_pages.specs.Ready.{lines_asked_behind}
use Rattle.answer_pages.specs.Workers.{IsWorkerIn, shares_text}
use Rattle.answer_pages.proofs.shares.deal.Given as goal

abbrev pub invariant-loop-worker : goal.invariant-loop-worker
invariant-loop-worker l = record {
  walk : l.walk ≡ l.fn.walk;
  ready : All (λ w. IsWorkerIn l.answers.case.now w) l.workers;
  text : lines_asked_behind l.answers l.from ≡ shares_text l.answers.case.now (take l.worker-index l.workers) ++ lines_asked_behind l.answers l.next;
  order : l.from ≤ l.next;
  further : 0 < l.worker-index → l.from < length l.answers.board.now → l.from < l.next;
}
