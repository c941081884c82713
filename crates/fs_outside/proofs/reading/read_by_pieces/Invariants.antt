use Rattle.std.proofs.Common.{◌≡◌, ◌++◌, ◌+◌, ◌-◌, ◌≤◌, length, vec_len}
use Rattle.fs_outside.proofs.reading.read_by_pieces.Given as goal

abbrev pub invariant-pieces : goal.invariant-pieces
invariant-pieces g l = record {
  within : length l.bytes.items ≤ l.most;
  faults : g.S.Source.faults l.source ≡ g.S.Source.faults l.fn.source;
  so_far : g.S.Source.tells → g.S.Source.left l.fn.source ≡ l.bytes.items ++ g.S.Source.left l.source;
}

abbrev pub decreases-pieces : goal.decreases-pieces
decreases-pieces g l = l.most + 1 - vec_len l.bytes
