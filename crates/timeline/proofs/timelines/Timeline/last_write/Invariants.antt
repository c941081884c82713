use Rattle.std.proofs.Common.{◌≡◌}
use Rattle.timeline.specs.Writes.{last_write}
use Rattle.timeline.proofs.StopLemmas.{IsSame}
use Rattle.timeline.proofs.timelines.Timeline.last_write.Given as goal

abbrev pub invariant-loop-place : goal.invariant-loop-place
invariant-loop-place l = record {
  same : IsSame l.fn.self l.self;
  found : l.found ≡ last_write l.fn.self.case l.fn.self.flip l.register l.place;
}
