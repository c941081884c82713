use Rattle.std.proofs.Common.{◌≡◌, take}
use Rattle.std.specs.List.{flat_map}
use Rattle.report.specs.Buffer.{Moved}
use Rattle.report.proofs.buffer.put_pieces.Given as goal

abbrev pub invariant-loop-piece : goal.invariant-loop-piece
invariant-loop-piece g l = record {
  faults : g.O.Sink.faults l.out ≡ g.O.Sink.faults l.fn.out;
  so_far : g.O.Sink.tells → Moved (g.O.Sink.taken l.fn.out) l.fn.waiting.items (g.O.Sink.taken l.out) l.waiting.items
      (flat_map (λ piece. piece.now) (take l.piece-index l.pieces));
}
