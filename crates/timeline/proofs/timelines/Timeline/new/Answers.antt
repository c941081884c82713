use Rattle.timeline.proofs.Passing.{here_first}
use Rattle.timeline.proofs.timelines.Timeline.new.Goals as goal

pub first_pass-requires-clause-here : goal.first_pass-requires-clause-here
first_pass-requires-clause-here c = here_first c.args.case.now c.args.flip c.in_ok-machine.machine c.flip_at.new.machine c.in_ok-machine.ensures c.flip_at.ensures.case c.flip_at.ensures.core
