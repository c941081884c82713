use Rattle.std.proofs.Common.{arith}
use Rattle.timeline.proofs.Keeping.{keep_more}
use Rattle.timeline.proofs.kept.keep_at.Goals as goal

pub returns-clause-states : goal.returns-clause-states
returns-clause-states c = λ case flips before here. keep_more case flips _ _ _ _ _ _ c.in_ok-push.ensures.items (omega arith) (c.in_ok-of.ensures case flips _ here) before
