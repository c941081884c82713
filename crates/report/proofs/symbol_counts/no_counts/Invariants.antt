use Rattle.std.proofs.Common.{◌≡◌, All, length}
use Rattle.fs_model.specs.Outcome.{no_totals}
use Rattle.report.proofs.symbol_counts.no_counts.Given as goal

abbrev pub invariant-loop : goal.invariant-loop
invariant-loop l = record {
  long : length l.totals.items ≡ l.counter;
  zeros : All (λ t. t ≡ no_totals) l.totals.items;
}
