use Rattle.std.proofs.Common.{◌≡◌, ◌+◌, vec_len, take}
use Rattle.window_counts.specs.Before.{IsBefore, window_from}
use Rattle.window_counts.specs.Windows.{address_window}
use Rattle.window_counts.proofs.windows.table_of_addresses.Given as goal

abbrev pub invariant-loop-pc : goal.invariant-loop-pc
invariant-loop-pc l = record {
  table : IsBefore l.before.items;
  window : window_from l.before.items ≡ address_window (take l.pc-index l.pcs) l.first l.last;
  count : vec_len l.before ≡ l.pc-index + 1;
}
