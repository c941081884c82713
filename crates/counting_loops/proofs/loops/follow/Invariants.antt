use Rattle.std.proofs.Common.{◌≡◌, ℕ, ◌+◌}
use Rattle.fs_model.specs.Machine.{Core}
use Rattle.counting_loops.specs.Rounds.{LeadsTo}
use Rattle.counting_loops.proofs.loops.follow.Given as goal

abbrev pub invariant-loop-step : goal.invariant-loop-step
invariant-loop-step l = record {
  same_case : l.head.case ≡ l.fn.head.case;
  leads : (start : Core) (m : ℕ) → LeadsTo l.case start m l.fn.head.core → LeadsTo l.case start (m + l._step) l.head.core;
}
