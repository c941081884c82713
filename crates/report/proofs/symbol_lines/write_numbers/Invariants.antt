use Rattle.std.proofs.Common.{◌≡◌, ◌++◌, take}
use Rattle.fs_model.specs.Outcome.{all_outcomes, total_at}
use Rattle.report.specs.SymbolLines.{numbers_text}
use Rattle.report.proofs.symbol_lines.write_numbers.Given as goal

abbrev pub invariant-loop-outcome : goal.invariant-loop-outcome
invariant-loop-outcome g l = record {
  faults : g.O.Sink.faults l.out ≡ g.O.Sink.faults l.fn.out;
  so_far : g.O.Sink.tells → g.O.Sink.taken l.out ≡ g.O.Sink.taken l.fn.out ++ numbers_text (take l.outcome-index all_outcomes) (total_at l.totals);
}
