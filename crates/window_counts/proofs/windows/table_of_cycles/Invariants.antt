use Rattle.std.proofs.Common.{◌≡◌, ◌+◌, vec_len}
use Rattle.window_counts.specs.Before.{IsBefore, window_from}
use Rattle.window_counts.specs.Windows.{cycle_window}
use Rattle.window_counts.proofs.windows.table_of_cycles.Given as goal

abbrev pub invariant-loop-cycle : goal.invariant-loop-cycle
invariant-loop-cycle l = record {
  table : IsBefore l.before.items;
  window : window_from l.before.items ≡ cycle_window l.cycle l.first l.last;
  count : vec_len l.before ≡ l.cycle + 1;
}
