use Rattle.std.proofs.Common.{◌≡◌, [], arith}
use Rattle.std.proofs.lemmas.Grind.{common_steps}
use Rattle.std.proofs.lemmas.List.Elements.{All-append, All-cons, All-nil}
use Rattle.fs_model.specs.Outcome.{TotalsData, no_totals}
use Rattle.report.proofs.symbol_counts.no_counts.Goals as goal

pub loop-preserved : goal.loop-preserved
loop-preserved c =
    let none = λ (t : TotalsData). t ≡ no_totals in
    record {
      long = grind (arith, common_steps);
      zeros = rw c.in_ok-push.ensures.items (All-append none c.loop.totals.items _ c.loop.invariant.zeros (All-cons none c.zero.result [] c.zero.ensures (All-nil none)));
    }
