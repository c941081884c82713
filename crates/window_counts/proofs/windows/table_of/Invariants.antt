use Rattle.std.proofs.Common.{◌≡◌, ◌+◌, vec_len, take}
use Rattle.window_counts.specs.Before.{IsBefore, window_from}
use Rattle.window_counts.proofs.windows.table_of.Given as goal

abbrev pub invariant-loop-flag : goal.invariant-loop-flag
invariant-loop-flag l = record {
  table : IsBefore l.before.items;
  window : window_from l.before.items ≡ take l.flag-index l.flags;
  count : vec_len l.before ≡ l.flag-index + 1;
}
