use Rattle.std.proofs.Common.{◌≡◌, length, false}
use Rattle.keep_format.specs.declared.rows.KeptRow.{KeptRow}
use Rattle.keep_format.specs.KeepFile.{apart}
use Rattle.keep_format.specs.Order.{is_before}
use Rattle.keep_format.specs.Runs.{Ascends, name_in}
use Rattle.keep_format.proofs.fronts.Front.pass.Given as goal

abbrev pub invariant-passed : goal.invariant-passed
invariant-passed l = record {
  ascends : Ascends l.self;
  later : (row : KeptRow) → is_before (name_in row) l.name ≡ false → apart l.self row ≡ apart l.initial.self row;
}

abbrev pub decreases-passed : goal.decreases-passed
decreases-passed l = length l.self
