use Rattle.std.proofs.Common.{arith}
use Rattle.report.specs.Text.{line_text}
use Rattle.fs_outside.proofs.Writes.{each_part, writes_part}
use Rattle.report.proofs.lines.write_lines.Goals as goal

pub returns-in_err-write_line-clause-bytes : goal.returns-in_err-write_line-clause-bytes
returns-in_err-write_line-clause-bytes g c =
    λ told. writes_part _ _ _ _ c.from_residual.ensures.0
    (each_part (λ l. line_text l.0.now l.1) _ _ _ c.args.lines.now c.loop-word.word-index _ (omega arith) (c.loop-word.invariant.so_far told) (c.in_err-write_line.ensures.bytes told))
