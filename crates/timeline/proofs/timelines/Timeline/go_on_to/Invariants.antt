use Rattle.timeline.proofs.StopLemmas.{Seeking}
use Rattle.timeline.proofs.timelines.Timeline.go_on_to.Given as goal

abbrev pub invariant-loop-place : goal.invariant-loop-place
invariant-loop-place l = Seeking l.fn.self l.self l.stops l.watches l.place
