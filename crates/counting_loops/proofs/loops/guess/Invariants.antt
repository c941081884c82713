use Rattle.std.proofs.Common.{◌≡◌}
use Rattle.counting_loops.proofs.loops.guess.Given as goal

abbrev pub invariant-loop-step : goal.invariant-loop-step
invariant-loop-step l = l.machine.case ≡ l.fn.machine.case
