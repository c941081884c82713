use Rattle.std.proofs.Common.{arith}
use Rattle.fs_outside.proofs.Writes.{each_fails}
use Rattle.fs_outside.proofs.writing.write_pieces.Goals as goal

pub returns-in_err-write_whole-clause-bytes : goal.returns-in_err-write_whole-clause-bytes
returns-in_err-write_whole-clause-bytes g c =
    each_fails (λ piece. piece.now) g.O.Sink.tells _ _ _ c.args.pieces.now c.loop-piece.piece-index _ _
    c.from_residual.ensures.0 (omega arith) c.loop-piece.invariant.so_far c.in_err-write_whole.ensures.bytes
