use Rattle.replay.proofs.Walked.{Both}
use Rattle.replay.proofs.walk.walk_along.Given as goal

abbrev pub invariant-loop-taken : goal.invariant-loop-taken
invariant-loop-taken l = Both l.case l.site l.taken l.machine l.golden l.differences l.sent_same
