use Rattle.std.proofs.Common.{◌≡◌, ◌+◌, ◌*◌, ◌-◌, ◌≤◌}
use Rattle.std.specs.Prelude.{flat_map}
use Rattle.std.specs.List.{range_with_len}
use Rattle.fs_model.specs.Cell.{first_cell}
use Rattle.fs_model.specs.Outcome.{sum_of}
use Rattle.fs_model.specs.Site.{cell_sites}
use Rattle.plain_commands.specs.Counting.{AddsOutcomes}
use Rattle.plain_commands.proofs.exhaustive.count_cycle.Given as goal

abbrev pub invariant-loop-cell : goal.invariant-loop-cell
invariant-loop-cell l = record {
  machine : l.machine.case ≡ l.case;
  counts : AddsOutcomes l.case (flat_map (cell_sites l.cycle) (range_with_len (first_cell l.case.pc_cell) (l.cell - first_cell l.case.pc_cell))) l.fn.totals l.totals;
  few : sum_of l.totals ≤ sum_of l.fn.totals + 32 * (l.cell - first_cell l.case.pc_cell);
}
