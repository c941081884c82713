use Rattle.std.proofs.Common.{◌≡◌, ◌-◌, ◌≤◌}
use Rattle.timeline.specs.Timelines.{previous_hit}
use Rattle.timeline.proofs.StopLemmas.{IsSame}
use Rattle.timeline.proofs.timelines.Timeline.go_back_to.Given as goal

abbrev pub invariant-loop-end : goal.invariant-loop-end
invariant-loop-end l = record {
  same : IsSame l.fn.self l.self;
  low : l.floor ≤ l.end;
  high : l.end ≤ l.fn.self.place;
  rest : previous_hit l.fn.self.case l.fn.self.flip l.stops l.watches l.floor l.fn.self.place ≡ previous_hit l.fn.self.case l.fn.self.flip l.stops l.watches l.floor l.end;
}

abbrev pub decreases-loop-end : goal.decreases-loop-end
decreases-loop-end l = l.end - l.floor
