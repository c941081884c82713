use Rattle.std.proofs.Common.{◌≡◌, ◌≤◌, length, take}
use Rattle.std.specs.Prelude.{vec_capacity, vec_len}
use Rattle.def_use.specs.Board.{HasOutcomeBelow}
use Rattle.results_db.specs.Rows.{rows_by}
use Rattle.results_db.proofs.rows.rows_of.Given as goal

abbrev pub invariant-loop-number : goal.invariant-loop-number
invariant-loop-number l = record {
  rows_are : l.rows.items ≡ rows_by (take l.number l.list.list) (take l.number l.board);
  whole : HasOutcomeBelow l.board l.number;
  walk : l.walk ≡ l.list;
  long : vec_len l.rows ≡ l.number;
  room : length l.list.list ≤ vec_capacity l.rows;
}
