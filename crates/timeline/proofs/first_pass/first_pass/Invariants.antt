use Rattle.timeline.proofs.Passing.{Passing}
use Rattle.timeline.proofs.first_pass.first_pass.Given as goal

abbrev pub invariant-loop-place : goal.invariant-loop-place
invariant-loop-place l = Passing l.case l.fn.flip l.spacing l.place l.next l.kept.items l.output.items l.machine
