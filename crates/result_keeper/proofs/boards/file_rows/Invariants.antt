use Rattle.std.proofs.Common.{◌≡◌, ◌+◌, length, take, drop}
use Rattle.def_use.specs.Board.{kept_of}
use Rattle.result_keeper.specs.Boards.{AreFileable, filed}
use Rattle.result_keeper.proofs.boards.file_rows.Given as goal

abbrev pub invariant-loop-row : goal.invariant-loop-row
invariant-loop-row l = record {
  along : l.walk ≡ l.list;
  so_far : l.board ≡ filed l.list.list l.initial.board (take l.row-index l.rows);
  long : length l.board ≡ length l.list.list;
  blank : AreFileable l.list.list l.board (drop l.row-index l.rows);
  kept : kept_of l.board ≡ kept_of l.initial.board + l.row-index;
}
