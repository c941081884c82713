use Rattle.std.proofs.Common.{◌-◌, ◌≤◌}
use Rattle.known_states.specs.Changes.{IsChanged}
use Rattle.known_states.proofs.changes.add_group.Given as goal

abbrev pub invariant-loop-place : goal.invariant-loop-place
invariant-loop-place l = record {
  within : l.place ≤ l.end;
  changed : IsChanged l.base l.now l.changes.items l.place;
}

abbrev pub decreases-loop-place : goal.decreases-loop-place
decreases-loop-place l = l.end - l.place
