use Rattle.std.proofs.Common.{◌-◌, ◌≤◌}
use Rattle.known_states.specs.Changes.{IsChanged}
use Rattle.known_states.proofs.changes.add_changes.Given as goal

abbrev pub invariant-loop-from : goal.invariant-loop-from
invariant-loop-from l = record {
  within : l.from ≤ l.end;
  changed : IsChanged l.base l.now l.changes.items l.from;
}

abbrev pub decreases-loop-from : goal.decreases-loop-from
decreases-loop-from l = l.end - l.from
