use Rattle.std.proofs.Common.{◌≡◌, [], ap, arith, rules, subst, sym, ◌∙◌}
use Rattle.std.specs.Prelude.{length}
use Rattle.fs_model.specs.Site.{cycle_sites}
use Rattle.fs_model.specs.Outcome.{TotalsData, no_totals, sum_of}
use Rattle.fs_model.proofs.EachOutcome.{sum_of-totals_of}
use Rattle.plain_commands.specs.Counting.{AddsOutcomes}
use Rattle.plain_commands.proofs.Counted.{counts_none, counts_more, counts_all}
use Rattle.plain_commands.proofs.exhaustive.count_sites.Goals as goal

pub loop-cycle-init : goal.loop-cycle-init
loop-cycle-init c =
    let none : sum_of c.zero-totals.result ≡ 0 = ap sum_of c.zero-totals.ensures ∙ sum_of-totals_of (λ o. 0) in
    record {
      machine = search rules;
      counts = subst (λ (t : TotalsData). AddsOutcomes c.args.case.now [] no_totals t) (sym c.zero-totals.ensures) (counts_none c.args.case.now no_totals);
      few = omega (arith, none);
    }

pub loop-cycle-preserved : goal.loop-cycle-preserved
loop-cycle-preserved c = record {
  machine = c.count_cycle.ensures.case;
  counts = counts_more c.args.case.now (cycle_sites c.args.case.now.pc_cell (length c.args.case.now.ram)) 0 c.loop-cycle.cycle c.loop-cycle.cycle _ c.loop-cycle.totals c.count_cycle.new.totals (omega arith)
      c.loop-cycle.invariant.counts c.count_cycle.ensures.counts;
  few = let here = c.count_cycle.ensures.few in let before = c.loop-cycle.invariant.few in omega (arith, here, before);
}

pub returns-clause-counts : goal.returns-clause-counts
returns-clause-counts c =
    let whole : c.loop-cycle.cycle ≡ length c.args.golden.now.touches = omega (arith, c.count-cycle-end.ensures.value) in
    (counts_all c.args.case.now c.args.golden.now c.loop-cycle.cycle c.loop-cycle.totals c.requires whole c.loop-cycle.invariant.counts).0

pub returns-clause-sum : goal.returns-clause-sum
returns-clause-sum c =
    let whole : c.loop-cycle.cycle ≡ length c.args.golden.now.touches = omega (arith, c.count-cycle-end.ensures.value) in
    (counts_all c.args.case.now c.args.golden.now c.loop-cycle.cycle c.loop-cycle.totals c.requires whole c.loop-cycle.invariant.counts).1
