use Rattle.std.proofs.Common.{◌≡◌, drop, true}
use Rattle.std.specs.Prelude.{All}
use Rattle.keep_format.specs.declared.rows.KeptRow.{KeptRow}
use Rattle.keep_format.specs.KeepFile.{apart}
use Rattle.keep_format.specs.Order.{is_before}
use Rattle.keep_format.specs.Runs.{Ascends, joined, name_in}
use Rattle.keep_format.proofs.runs.apart_in_runs.Given as goal

abbrev pub invariant-loop-front : goal.invariant-loop-front
invariant-loop-front l = record {
  none : apart (joined (drop l.front-index l.fronts)) l.row ≡ apart (joined l.initial.fronts) l.row;
  ascend : All Ascends l.fronts;
  later : (later : KeptRow) → is_before (name_in l.row) (name_in later) ≡ true → apart (joined l.fronts) later ≡ apart (joined l.initial.fronts) later;
}
