use Rattle.std.proofs.Common.{◌≡◌}
use Rattle.counting_loops.specs.Rounds.{PathStays}
use Rattle.counting_loops.proofs.rounds.path_stays.Given as goal

abbrev pub invariant-loop-step : goal.invariant-loop-step
invariant-loop-step l = record {
  same_case : l.machine.case ≡ l.fn.machine.case;
  stays : PathStays l.case l.extent.last l._step l.paces.registers l.paces.words l.head.core l.now.registers l.now.words l.machine.core;
}
