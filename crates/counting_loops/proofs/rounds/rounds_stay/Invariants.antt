use Rattle.std.proofs.Common.{◌≡◌}
use Rattle.counting_loops.proofs.rounds.rounds_stay.Given as goal

abbrev pub invariant-loop-pass : goal.invariant-loop-pass
invariant-loop-pass l = l.machine.case ≡ l.fn.machine.case
