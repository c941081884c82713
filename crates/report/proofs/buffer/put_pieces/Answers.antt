use Rattle.std.proofs.Common.{arith, rules, refl}
use Rattle.report.proofs.Buffered.{each_moves, each_part, moved_none, puts_part}
use Rattle.report.proofs.buffer.put_pieces.Goals as goal

pub loop-piece-init : goal.loop-piece-init
loop-piece-init g c = record { faults = refl; so_far = λ told. moved_none _ _ }

pub loop-piece-preserved : goal.loop-piece-preserved
loop-piece-preserved g c = record {
  faults = search rules;
  so_far = λ told. each_moves (λ piece. piece.now) _ _ _ _ _ _ c.args.pieces.now c.loop-piece.piece-index _ (omega arith)
      (c.loop-piece.invariant.so_far told) (c.in_ok-put.ensures.bytes told);
}

pub returns-in_err-put-clause-bytes : goal.returns-in_err-put-clause-bytes
returns-in_err-put-clause-bytes g c = λ told.
    puts_part _ _ _ _ _ c.from_residual.result c.from_residual.ensures.0
    (each_part (λ piece. piece.now) _ _ _ _ _ c.args.pieces.now c.loop-piece.piece-index _ (omega arith)
    (c.loop-piece.invariant.so_far told) (c.in_err-put.ensures.bytes told))
