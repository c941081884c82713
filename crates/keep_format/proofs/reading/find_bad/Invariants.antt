use Rattle.std.proofs.Common.{◌≡◌}
use Rattle.keep_format.specs.KeepFile.{bad_in}
use Rattle.keep_format.proofs.reading.find_bad.Given as goal

abbrev pub invariant-loop-raw : goal.invariant-loop-raw
invariant-loop-raw l = record {
  can_next : (goal.iterator-loop-raw).can_next l.raw-iterator;
  is_finite : (goal.iterator-loop-raw).is_finite l.raw-iterator;
  so_far : bad_in l.raw-iterator ≡ bad_in l.fn.rows;
}
