use Rattle.std.proofs.Common.{◌≡◌, ◌+◌, ◌-◌, ◌*◌, ◌≤◌, length, true}
use Rattle.keep_format.specs.RawRows.{is_whole_batch, rows_left}
use Rattle.keep_format.proofs.raw_rows.find_row.Given as goal

abbrev pub invariant-gates : goal.invariant-gates
invariant-gates l = record {
  within : l.at + 10 * l.left ≤ length l.file;
  whole : is_whole_batch l.left l.at l.file ≡ true;
  same : rows_left l.initial.left l.initial.at l.file ≡ rows_left l.left l.at l.file;
}

abbrev pub decreases-gates : goal.decreases-gates
decreases-gates l = length l.file - l.at
