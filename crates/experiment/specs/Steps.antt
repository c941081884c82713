-- How many steps an injected run takes.
use Rattle.std.specs.Prelude.{ℕ, List, take}
use Rattle.fs_model.specs.Machine.{Core}
use Rattle.fs_model.specs.Run.{State, Ending, Ended, Over}

-- the state of a run that has sent just the first golden bytes
abbrev pub begun : Core → List ℕ → ℕ → State
begun core golden sent = record { core = core; output = take sent golden }

-- how many steps a run took, of k at most
unfoldable pub steps_of : ℕ → Ending → ℕ
steps_of k (Ended end steps output) = steps
steps_of k Over = k
