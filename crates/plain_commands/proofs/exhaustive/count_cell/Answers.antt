use Rattle.std.proofs.Common.{◌≡◌, ◌∙◌, subst, arith}
use Rattle.std.specs.Prelude.{map}
use Rattle.std.specs.List.{range_with_len}
use Rattle.fs_model.specs.Cell.{bits}
use Rattle.fs_model.specs.Site.{cell_sites}
use Rattle.plain_commands.specs.Counting.{AddsOutcomes}
use Rattle.plain_commands.proofs.Counted.{counts_bit}
use Rattle.plain_commands.proofs.exhaustive.count_cell.Goals as goal

pub loop-bit-preserved : goal.loop-bit-preserved
loop-bit-preserved c = record {
  machine = c.run_site_plain-outcome.ensures.case ∙ c.loop-bit.invariant.machine;
  counts = counts_bit c.args.case.now c.args.cycle c.args.cell c.loop-bit.bit c.run_site_plain-outcome.result _ c.loop-bit.totals c.add.new.self
      c.loop-bit.invariant.counts c.run_site_plain-outcome.ensures.outcome c.add.ensures.value c.add.ensures.sum;
  sum = let more = c.add.ensures.sum in let before = c.loop-bit.invariant.sum in omega (arith, more, before);
}

pub returns-clause-counts : goal.returns-clause-counts
unfolding cell_sites
returns-clause-counts c =
    let whole : c.loop-bit.bit ≡ bits c.args.cell = omega (arith, c.bits-bit-end.ensures.value) in
    subst (λ n. AddsOutcomes c.args.case.now (map (λ bit. record { cycle = c.args.cycle; cell = c.args.cell; bit = bit }) (range_with_len 0 n)) c.args.totals.now c.loop-bit.totals)
    whole c.loop-bit.invariant.counts
