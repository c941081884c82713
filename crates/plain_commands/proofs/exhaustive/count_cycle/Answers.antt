use Rattle.std.proofs.Common.{◌≡◌, ◌+◌, ◌-◌, ◌≤◌, ◌∙◌, ap, subst, arith}
use Rattle.std.specs.Prelude.{length, flat_map}
use Rattle.std.specs.List.{range_with_len}
use Rattle.fs_model.specs.Cell.{first_cell}
use Rattle.fs_model.specs.Site.{cells, cell_sites, cycle_sites}
use Rattle.fs_model.proofs.SiteList.{first_one}
use Rattle.plain_commands.specs.Counting.{AddsOutcomes}
use Rattle.plain_commands.proofs.Counted.{counts_more}
use Rattle.plain_commands.proofs.exhaustive.count_cycle.Goals as goal

pub loop-cell-preserved : goal.loop-cell-preserved
loop-cell-preserved c =
    let first = first_cell c.args.case.now.pc_cell in
    let is = c.first_cell-first.ensures ∙ ap first_cell c.pc_cell.ensures in
    let low : first ≤ c.loop-cell.cell = omega (arith, c.loop-cell.auto.cell, is) in
    let more : (c.loop-cell.cell - first) + 1 ≡ c.loop-cell.cell + 1 - first = omega (arith, low) in
    record {
      machine = c.count_cell.ensures.case;
      counts = subst (λ n. AddsOutcomes c.args.case.now (flat_map (cell_sites c.args.cycle) (range_with_len first n)) c.args.totals.now c.count_cell.new.totals) more
          (counts_more c.args.case.now (cell_sites c.args.cycle) first (c.loop-cell.cell - first) c.loop-cell.cell _ c.loop-cell.totals c.count_cell.new.totals (omega (arith, low))
          c.loop-cell.invariant.counts c.count_cell.ensures.counts);
      few = let here = c.count_cell.ensures.few in let before = c.loop-cell.invariant.few in omega (arith, here, before, low);
    }

pub returns-clause-counts : goal.returns-clause-counts
unfolding cycle_sites cells
returns-clause-counts c =
    let first = first_cell c.args.case.now.pc_cell in
    let is = c.first_cell-first.ensures ∙ ap first_cell c.pc_cell.ensures in
    let one = first_one c.args.case.now.pc_cell in
    let len = ap length c.ram.ensures in
    let whole : c.loop-cell.cell - first ≡ 32 + length c.args.case.now.ram - first = omega (arith, one, is, len, c.loop-cell.auto.cell-end, c.end_of_cells-end.ensures) in
    subst (λ n. AddsOutcomes c.args.case.now (flat_map (cell_sites c.args.cycle) (range_with_len first n)) c.args.totals.now c.loop-cell.totals) whole c.loop-cell.invariant.counts
