use Rattle.std.proofs.Common.{arith}
use Rattle.fs_outside.proofs.Writes.{each_part, writes_part}
use Rattle.fs_outside.specs.Parts.{part_text}
use Rattle.fs_outside.proofs.parts.write_parts.Goals as goal

pub returns-in_err-write_part-clause-bytes : goal.returns-in_err-write_part-clause-bytes
returns-in_err-write_part-clause-bytes g c =
    λ told. writes_part _ _ _ _ c.from_residual.ensures.0
    (each_part part_text _ _ _ c.args.parts.now c.loop-part.part-index _ (omega arith) (c.loop-part.invariant.so_far told) (c.in_err-write_part.ensures.bytes told))
