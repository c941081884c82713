use Rattle.std.proofs.Common.{rules, ◌≡◌, ◌+◌, ◌++◌, take, drop, subst, arith}
use Rattle.fs_outside.specs.Past.{content}
use Rattle.result_keeper.proofs.FileFronts.{piece_behind}
use Rattle.result_keeper.proofs.reading.fill.Goals as goal

pub pieces-preserved : goal.pieces-preserved
pieces-preserved g c = record {
  within = search rules;
  faults = search rules;
  same = search rules;
  given = λ told. omega (arith, c.in_ok-n.ensures.given told, c.pieces.invariant.given told);
  front =
      λ told le. piece_behind (content (g.D.Disk.past c.args.disk.now)) c.pieces.bytes c.read_piece.new.bytes c.pieces.at c.in_ok-n.n (omega (arith, c.pieces.invariant.within, le)) (c.pieces.invariant.front told le)
      (subst (λ p. take (c.pieces.at + c.in_ok-n.n) c.read_piece.new.bytes ≡ take c.pieces.at c.pieces.bytes ++ take c.in_ok-n.n (drop c.pieces.at (content p))) (c.pieces.invariant.same told) (c.in_ok-n.ensures.front told));
}
