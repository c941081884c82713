-- Loops of which each round is known.
use Rattle.std.specs.Prelude.{◌≡◌, ℕ, ◌+◌, ◌*◌, ◌<◌, ◌≤◌}
use Rattle.fs_model.specs.Case.{CaseData}
use Rattle.fs_model.specs.Run.{State, Over, ending, run}
use Rattle.fs_model.specs.Leg.{GoesFor}

-- each of the first rounds, of m steps, goes on and comes from its state to the next one
pub record AreRounds (c : CaseData) (at : ℕ → State) (m rounds : ℕ) : Type 0 where
  pub goes : (i : ℕ) → i < rounds → GoesFor c (at i) m
  pub comes : (i : ℕ) → i < rounds → run c m (at i) ≡ at (i + 1)

-- a run from the first of them is not over within all their steps
abbrev pub RoundsGoOn : Type 0
RoundsGoOn = (c : CaseData) (at : ℕ → State) (m rounds k : ℕ) → AreRounds c at m rounds → k ≤ rounds * m → ending c k (at 0) ≡ Over
