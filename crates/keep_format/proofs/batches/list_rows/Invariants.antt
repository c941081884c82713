use Rattle.std.proofs.Common.{◌≡◌, ◌++◌}
use Rattle.keep_format.proofs.batches.list_rows.Given as goal

abbrev pub invariant-loop-row : goal.invariant-loop-row
invariant-loop-row l = record {
  can_next : (goal.iterator-loop-row).can_next l.row-iterator;
  is_finite : (goal.iterator-loop-row).is_finite l.row-iterator;
  so_far : l.list.items ++ l.row-iterator ≡ l.fn.rows;
}
