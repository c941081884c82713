use Rattle.std.proofs.Common.{◌-◌, ◌≤◌}
use Rattle.timeline.specs.Places.{IsOn}
use Rattle.timeline.proofs.along.advance_on.Given as goal

abbrev pub invariant-loop-left : goal.invariant-loop-left
invariant-loop-left l = record {
  few : l.left ≤ l.to - l.from;
  stands : IsOn l.fn.machine.case l.fn.site (l.to - l.left - l.fn.site.cycle) l.machine l.sent;
}

abbrev pub decreases-loop-left : goal.decreases-loop-left
decreases-loop-left l = l.left
