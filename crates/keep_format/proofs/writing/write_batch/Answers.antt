use Rattle.std.proofs.Common.{◌≤◌, length, arith}
use Rattle.std.proofs.lemmas.Grind.{common_steps}
use Rattle.std.proofs.lemmas.List.{take_all}
use Rattle.std.proofs.lemmas.List.Elements.{All-more}
use Rattle.keep_format.specs.KeepFile.{IsWritable}
use Rattle.keep_format.proofs.writing.write_batch.Goals as goal

pub loop-row-preserved : goal.loop-row-preserved
loop-row-preserved c = record {
  written = grind (arith, common_steps);
  room = grind (arith, common_steps);
  writable = All-more IsWritable c.args.rows.now c.loop-row.row-index _ c.loop-row-test.true c.loop-row.invariant.writable c.put_row.ensures.writable;
  kept = omega arith;
}

pub returns-clause-writable : goal.returns-clause-writable
returns-clause-writable c =
    let end : length c.args.rows.now ≤ c.loop-row.row-index = omega arith in
    rw (take_all c.loop-row.row-index c.args.rows.now end) at c.loop-row.invariant.writable
