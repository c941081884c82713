use Rattle.std.proofs.Common.{◌≡◌, ◌*◌, ◌≤◌, length}
use Rattle.std.specs.Prelude.{flat_map}
use Rattle.std.specs.List.{range_with_len}
use Rattle.fs_model.specs.Outcome.{sum_of, no_totals}
use Rattle.fs_model.specs.Site.{cycle_sites}
use Rattle.plain_commands.specs.Counting.{AddsOutcomes}
use Rattle.plain_commands.proofs.exhaustive.count_sites.Given as goal

abbrev pub invariant-loop-cycle : goal.invariant-loop-cycle
invariant-loop-cycle l = record {
  machine : l.machine.case ≡ l.case;
  counts : AddsOutcomes l.case (flat_map (cycle_sites l.case.pc_cell (length l.case.ram)) (range_with_len 0 l.cycle)) no_totals l.totals;
  few : sum_of l.totals ≤ 2098176 * l.cycle;
}
