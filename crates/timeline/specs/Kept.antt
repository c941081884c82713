-- Kept states of a run.
use Rattle.std.specs.Prelude.{ℕ, ◌≡◌, ◌*◌, ◌<◌, List, length, get_or, Option}
use Rattle.fs_model.specs.declared.sites.Site.{Site}
use Rattle.fs_model.specs.Case.{CaseData}
use Rattle.rv_machine.specs.Machines.{MachineData}
use Rattle.timeline.specs.Places.{IsHere}

pub record KeptData : Type 0 where
  pub machine : MachineData
  pub sent : ℕ

abbrev pub IsStateKept : CaseData → Option Site → ℕ → KeptData → Type 0
IsStateKept c flip n k = IsHere c flip n k.machine k.sent

-- the states after the multiples of the spacing, in order
abbrev pub AreKept : CaseData → Option Site → ℕ → List KeptData → Type 0
AreKept c flip spacing list = (i : ℕ) (other : KeptData) → i < length list → IsStateKept c flip (i * spacing) (get_or list i other)

-- they are those of the multiples below `next`, which is the next one
pub record IsKeptTo (c : CaseData) (flip : Option Site) (spacing : ℕ) (list : List KeptData) (next : ℕ) : Type 0 where
  pub states : AreKept c flip spacing list
  pub next_is : next ≡ length list * spacing
