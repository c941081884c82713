use Rattle.std.proofs.Common.{arith, rules, refl}
use Rattle.fs_outside.specs.Parts.{part_text}
use Rattle.report.proofs.Buffered.{each_moves, each_part, moved_none, puts_part}
use Rattle.report.proofs.buffer.put_parts.Goals as goal

pub loop-part-init : goal.loop-part-init
loop-part-init g c = record { faults = refl; so_far = λ told. moved_none _ _ }

pub loop-part-preserved : goal.loop-part-preserved
loop-part-preserved g c = record {
  faults = search rules;
  so_far = λ told. each_moves part_text _ _ _ _ _ _ c.args.parts.now c.loop-part.part-index _ (omega arith)
      (c.loop-part.invariant.so_far told) (c.in_ok-put_part.ensures.bytes told);
}

pub returns-in_err-put_part-clause-bytes : goal.returns-in_err-put_part-clause-bytes
returns-in_err-put_part-clause-bytes g c = λ told.
    puts_part _ _ _ _ _ c.from_residual.result c.from_residual.ensures.0
    (each_part part_text _ _ _ _ _ c.args.parts.now c.loop-part.part-index _ (omega arith)
    (c.loop-part.invariant.so_far told) (c.in_err-put_part.ensures.bytes told))
