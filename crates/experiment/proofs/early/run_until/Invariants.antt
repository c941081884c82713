use Rattle.std.proofs.Common.{◌-◌}
use Rattle.experiment.specs.Steps.{begun}
use Rattle.experiment.specs.UnderWay.{IsUnderWay}
use Rattle.experiment.proofs.early.run_until.Given as goal

abbrev pub invariant-loop-at : goal.invariant-loop-at
invariant-loop-at l = IsUnderWay l.reference l.cycle l.fn.machine.taken (begun l.fn.machine.core l.reference.golden.now.output l.sent) l.at l.machine l.watch

abbrev pub decreases-loop-at : goal.decreases-loop-at
decreases-loop-at l = l.limit - l.at
