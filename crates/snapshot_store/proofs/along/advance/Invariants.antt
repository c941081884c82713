use Rattle.std.proofs.Common.{◌-◌, ◌≤◌}
use Rattle.snapshot_store.specs.Along.{IsAt, Rose}
use Rattle.snapshot_store.proofs.along.advance.Given as goal

abbrev pub invariant-loop-left : goal.invariant-loop-left
invariant-loop-left l = record {
  few : l.left ≤ l.to - l.from;
  stands : IsAt l.fn.machine.case (l.to - l.left) l.machine l.sent;
  taken : Rose l.fn.machine.taken (l.to - l.from - l.left) l.machine.taken;
}

abbrev pub decreases-loop-left : goal.decreases-loop-left
decreases-loop-left l = l.left
