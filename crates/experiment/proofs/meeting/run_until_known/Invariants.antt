use Rattle.std.proofs.Common.{◌≡◌, ◌-◌}
use Rattle.fs_model.specs.Outcome.{outcome}
use Rattle.experiment.specs.Steps.{begun}
use Rattle.experiment.specs.UnderWay.{IsUnderWay}
use Rattle.experiment.proofs.Keyed.{AllKnown}
use Rattle.experiment.proofs.meeting.run_until_known.Given as goal

abbrev pub invariant-loop-at : goal.invariant-loop-at
invariant-loop-at g l = record {
  under_way : IsUnderWay l.reference l.fn.shortcuts.own.cycle l.fn.machine.taken (begun l.fn.machine.core l.reference.golden.now.output l.sent) l.at l.machine l.watch;
  known : AllKnown l.reference.case.now l.reference.golden.now l.reference.snaps.now l.shortcuts.keys (outcome l.reference.case.now l.fn.shortcuts.own);
  case : l.shortcuts.case ≡ l.fn.shortcuts.case;
  own : l.shortcuts.own ≡ l.fn.shortcuts.own;
}

abbrev pub decreases-loop-at : goal.decreases-loop-at
decreases-loop-at g l = l.limit - l.at
