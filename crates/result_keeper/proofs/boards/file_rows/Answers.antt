use Rattle.std.proofs.Common.{length, ◌∙◌, arith}
use Rattle.fs_model.specs.declared.outcomes.Row.{Row}
use Rattle.fs_model.specs.declared.outcomes.Outcome.TheVariants.{NoEffect}
use Rattle.result_keeper.proofs.Filing.{filed_nothing, filed_more, fileable_more, length-filed}
use Rattle.result_keeper.proofs.boards.file_rows.Goals as goal
use Rattle.std.proofs.Common.{sym, ap}

pub loop-row-init : goal.loop-row-init
loop-row-init c = record {
  along = c.walk-walk.ensures;
  so_far = sym (filed_nothing c.args.list.now.list c.args.board.now c.requires.long);
  long = c.requires.long;
  blank = c.requires.blank;
  kept = omega arith;
}

abbrev nothing : Row
nothing = record { cycle = 0; cell = 0; bit = 0; outcome = NoEffect }

pub loop-row-preserved : goal.loop-row-preserved
loop-row-preserved c =
    let along = c.loop-row.invariant.along in
    let filed = rw along at c.file_row.ensures.board in
    let more = fileable_more c.args.list.now.list c.loop-row.board c.file_row.new.board c.args.rows.now c.loop-row.row-index nothing c.loop-row-test.true filed c.loop-row.invariant.blank in
    let kept = (rw along at c.file_row.ensures.kept) more.0 in
    record {
      along = c.file_row.ensures.same ∙ along;
      so_far = filed_more c.args.list.now.list c.args.board.now c.loop-row.board c.file_row.new.board c.args.rows.now c.loop-row.row-index nothing c.loop-row-test.true c.loop-row.invariant.so_far filed;
      long = ap length filed ∙ length-filed c.args.list.now.list c.loop-row.board _ c.loop-row.invariant.long;
      blank = more.1;
      kept = omega (arith, kept, c.loop-row.invariant.kept);
    }
