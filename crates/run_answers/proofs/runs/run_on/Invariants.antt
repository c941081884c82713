use Rattle.std.proofs.Common.{◌≡◌, ◌-◌, ◌≤◌}
use Rattle.run_answers.specs.Answers.{answer_from}
use Rattle.run_answers.specs.Kept.{HasPassed, IsKeptOf}
use Rattle.run_answers.proofs.runs.run_on.Given as goal

abbrev pub invariant-loop-at : goal.invariant-loop-at
invariant-loop-at l = record {
  within : l.at ≤ l.reference.limit;
  later : l.cycle ≤ l.at;
  case : l.machine.case ≡ l.fn.machine.case;
  kept : IsKeptOf l.reference l.kept;
  passed : HasPassed l.reference (answer_from l.reference (l.reference.limit - l.cycle) (record { core = l.fn.machine.core; output = l.fn.output.items })) l.kept;
  answer : answer_from l.reference (l.reference.limit - l.cycle) (record { core = l.fn.machine.core; output = l.fn.output.items })
      ≡ answer_from l.reference (l.reference.limit - l.at) (record { core = l.machine.core; output = l.output.items });
}

abbrev pub decreases-loop-at : goal.decreases-loop-at
decreases-loop-at l = l.limit - l.at
