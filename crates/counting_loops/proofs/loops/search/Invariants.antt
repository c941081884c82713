use Rattle.std.proofs.Common.{◌≡◌, ◌+◌, ◌-◌, ◌≤◌, ℕ}
use Rattle.counting_loops.specs.Rounds.{LeadsTo}
use Rattle.counting_loops.proofs.loops.search.Given as goal

abbrev pub invariant-loop-stage : goal.invariant-loop-stage
invariant-loop-stage l = record {
  head_is : l.scratch.head.case ≡ l.fn.scratch.head.case;
  machine_is : l.scratch.machine.case ≡ l.fn.scratch.machine.case;
  few : l.rest ≤ l.left;
  leads : LeadsTo l.case l.start.core (l.left - l.rest) l.scratch.head.core;
}
