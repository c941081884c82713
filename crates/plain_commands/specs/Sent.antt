-- What a run sends.
use Rattle.std.specs.Prelude.{ℕ, List, []}
use Rattle.fs_model.specs.Case.{CaseData}
use Rattle.fs_model.specs.Machine.{Core}
use Rattle.fs_model.specs.Run.{State, run}

-- a run that begins with what the machine holds, and has sent nothing
abbrev pub begins : Core → State
begins core = record { core = core; output = [] }

-- what it sends in its first k steps
abbrev pub sent_from : CaseData → Core → ℕ → List ℕ
sent_from c core k = (run c k (begins core)).output
