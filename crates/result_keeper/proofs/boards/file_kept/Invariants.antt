use Rattle.std.proofs.Common.{◌≡◌, length, map}
use Rattle.keep_format.specs.KeepFile.{file_row_of}
use Rattle.result_keeper.specs.Acceptance.{outcome_rows, stranger}
use Rattle.result_keeper.specs.Boards.{filed}
use Rattle.result_keeper.proofs.boards.file_kept.Given as goal

abbrev pub invariant-loop-kept : goal.invariant-loop-kept
invariant-loop-kept l = record {
  can_next : (goal.iterator-loop-kept).can_next l.kept-iterator;
  is_finite : (goal.iterator-loop-kept).is_finite l.kept-iterator;
  along : l.walk ≡ l.list;
  so_far : l.board ≡ filed l.list.list l.initial.board (outcome_rows (map file_row_of l.yielded));
  long : length l.board ≡ length l.list.list;
  rest : stranger l.list.list l.kept-iterator ≡ stranger l.list.list l.fn.rows;
}
