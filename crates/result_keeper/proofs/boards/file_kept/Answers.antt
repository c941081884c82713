use Rattle.std.proofs.Common.{[], ◌∷◌, length, ◌∙◌, sym, ap}
use Rattle.keep_format.specs.KeepFile.{file_row_of}
use Rattle.result_keeper.specs.Acceptance.{outcome_rows, stranger}
use Rattle.result_keeper.proofs.Filing.{filed_nothing, length-filed}
use Rattle.result_keeper.proofs.KeptRows.{kept_more_filed, stranger_behind}
use Rattle.result_keeper.proofs.boards.file_kept.Goals as goal

pub loop-kept-init : goal.loop-kept-init
loop-kept-init c = record {
  can_next = tt;
  is_finite = tt;
  along = c.walk-walk.ensures;
  so_far = sym (filed_nothing c.args.list.now.list c.args.board.now c.requires.long);
  long = c.requires.long;
  rest = ap (stranger c.args.list.now.list) c.into_iter-kept-iterator.ensures.into_iter_gives;
}

pub loop-kept-preserved : goal.loop-kept-preserved
loop-kept-preserved c =
    let list = c.args.list.now.list in
    let row = c.in-Some.kept in
    let along = c.loop-kept.invariant.along in
    let filed = rw along at c.file_kept_row.ensures.board in
    let named = rw along at c.file_kept_row.ensures.named in
    record {
      can_next = tt;
      is_finite = tt;
      along = c.file_kept_row.ensures.same ∙ along;
      so_far = kept_more_filed list c.args.board.now c.loop-kept.board c.file_kept_row.new.board c.loop-kept.yielded row c.loop-kept.invariant.so_far filed;
      long = ap length filed ∙ length-filed list c.loop-kept.board (outcome_rows (file_row_of row ∷ [])) c.loop-kept.invariant.long;
      rest = stranger_behind list c.loop-kept.kept-iterator c.next.new.self row _ c.in-Some.ensures.steps (sym named ∙ c.if-not-file_kept_row.false) c.loop-kept.invariant.rest;
    }

pub returns-then-not-file_kept_row-clause-long : goal.returns-then-not-file_kept_row-clause-long
returns-then-not-file_kept_row-clause-long c =
    ap length (rw c.loop-kept.invariant.along at c.file_kept_row.ensures.board)
    ∙ length-filed c.args.list.now.list c.loop-kept.board (outcome_rows (file_row_of c.in-Some.kept ∷ [])) c.loop-kept.invariant.long
