use Rattle.std.proofs.Common.{◌∙◌}
use Rattle.keep_format.proofs.Spots.{rows_there, whole_there, same_rows}
use Rattle.keep_format.proofs.raw_rows.find_row.Goals as goal

pub gates-preserved : goal.gates-preserved
gates-preserved c =
    let file = c.args.file.now in
    record {
      within = rows_there file c.gates.at c.gates.left c.gates-test.true c.gates.invariant.whole c.if-file-at.false c.half_at-left.result c.half_at-left.ensures;
      whole = whole_there file c.gates.at c.gates.left c.gates-test.true c.gates.invariant.whole c.if-file-at.false c.half_at-left.result c.half_at-left.ensures;
      same = c.gates.invariant.same
          ∙ same_rows file c.gates.at c.gates.left c.gates-test.true c.gates.invariant.whole c.if-file-at.false c.half_at-left.result c.half_at-left.ensures;
    }
