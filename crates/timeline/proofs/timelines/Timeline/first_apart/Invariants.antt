use Rattle.timeline.proofs.ApartLemmas.{Parting}
use Rattle.timeline.proofs.timelines.Timeline.first_apart.Given as goal

abbrev pub invariant-loop-place : goal.invariant-loop-place
invariant-loop-place l = Parting l.fn.self l.fn.other l.self l.other l.from l.place
