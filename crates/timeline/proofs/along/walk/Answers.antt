use Rattle.timeline.proofs.States.{here_golden, golden_here}
use Rattle.timeline.proofs.along.walk.Goals as goal

pub advance-requires-clause-at : goal.advance-requires-clause-at
advance-requires-clause-at c = let h = c.requires.here in here_golden _ _ _ _ (rw c.in-None.is at h)

pub returns-in-None : goal.returns-in-None
returns-in-None c = rw c.in-None.is (golden_here _ _ _ _ c.advance.ensures.at)
