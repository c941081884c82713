use Rattle.std.proofs.Common.{◌≡◌, ◌-◌, ◌%◌, ◌<◌, ◌≤◌, length}
use Rattle.known_states.specs.Changes.{IsChanged}
use Rattle.known_states.proofs.differing.changes_since.Given as goal

abbrev pub invariant-loop-at : goal.invariant-loop-at
invariant-loop-at l = record {
  within : l.at ≤ length l.machine.core.ram;
  start : l.at < length l.machine.core.ram → l.at % 512 ≡ 0;
  changed : IsChanged l.base.core.ram l.machine.core.ram l.changes.items l.at;
}

abbrev pub decreases-loop-at : goal.decreases-loop-at
decreases-loop-at l = l.size - l.at
