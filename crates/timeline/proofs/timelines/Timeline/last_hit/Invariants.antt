use Rattle.std.proofs.Common.{◌≡◌}
use Rattle.timeline.specs.Timelines.{previous_hit}
use Rattle.timeline.proofs.StopLemmas.{IsSame}
use Rattle.timeline.proofs.timelines.Timeline.last_hit.Given as goal

abbrev pub invariant-loop-place : goal.invariant-loop-place
invariant-loop-place l = record {
  same : IsSame l.fn.self l.self;
  found : l.found ≡ previous_hit l.fn.self.case l.fn.self.flip l.stops l.watches l.begin l.place;
}
