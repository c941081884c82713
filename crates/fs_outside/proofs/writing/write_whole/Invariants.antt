use Rattle.std.proofs.Common.{◌≡◌, ◌-◌, ◌≤◌, ◌++◌, length, take}
use Rattle.fs_outside.proofs.writing.write_whole.Given as goal

abbrev pub invariant-loop-at : goal.invariant-loop-at
invariant-loop-at g l = record {
  within : l.at ≤ length l.text;
  faults : g.O.Sink.faults l.out ≡ g.O.Sink.faults l.fn.out;
  so_far : g.O.Sink.tells → g.O.Sink.taken l.out ≡ g.O.Sink.taken l.fn.out ++ take l.at l.text;
  untouched : length l.text ≡ 0 → l.out ≡ l.fn.out;
}

abbrev pub decreases-loop-at : goal.decreases-loop-at
decreases-loop-at g l = length l.text - l.at
