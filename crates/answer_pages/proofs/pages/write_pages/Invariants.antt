use Rattle.std.proofs.Common.{◌≡◌, ◌-◌, ◌++◌, List, ℕ}
use Rattle.std.specs.Prelude.{All}
use Rattle.answer_pages.specs.Ready.{text_asked, lines_asked_behind}
use Rattle.answer_pages.specs.Workers.{IsWorkerIn}
use Rattle.answer_pages.proofs.pages.write_pages.Given as goal

abbrev pub invariant-loop-next : goal.invariant-loop-next
invariant-loop-next g l = record {
  walk : l.walk ≡ l.answers.list.now;
  ready : All (λ w. IsWorkerIn l.answers.case.now w) l.workers;
  faults : g.O.Sink.faults l.out ≡ g.O.Sink.faults l.fn.out;
  so_far : g.O.Sink.tells → (front : List ℕ) × (text_asked l.answers ≡ front ++ lines_asked_behind l.answers l.next) × (g.O.Sink.taken l.out ≡ g.O.Sink.taken l.fn.out ++ front);
}

abbrev pub decreases-loop-next : goal.decreases-loop-next
decreases-loop-next g l = l.end - l.next
