use Rattle.std.proofs.Common.{◌≡◌, ◌++◌, take}
use Rattle.std.specs.List.{flat_map}
use Rattle.fs_outside.proofs.writing.write_pieces.Given as goal

abbrev pub invariant-loop-piece : goal.invariant-loop-piece
invariant-loop-piece g l = record {
  faults : g.O.Sink.faults l.out ≡ g.O.Sink.faults l.fn.out;
  so_far : g.O.Sink.tells
      → g.O.Sink.taken l.out ≡ g.O.Sink.taken l.fn.out ++ flat_map (λ piece. piece.now) (take l.piece-index l.pieces);
}
