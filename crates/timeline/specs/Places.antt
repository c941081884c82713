-- The run of a case with an optional flip, by the number of instructions executed.
use Rattle.std.specs.Prelude.{ℕ, zero, suc, ◌≡◌, ◌+◌, ◌-◌, ◌<◌, ◌==◌, nat_lt, not, Bool, if◌then◌else◌, length, Option, Some, None, unwrap_or}
use Rattle.std.specs.Option.{option_or}
use Rattle.fs_model.specs.declared.events.Event.{Event}
use Rattle.fs_model.specs.declared.sites.Site.{Site}
use Rattle.fs_model.specs.Case.{CaseData}
use Rattle.fs_model.specs.Cell.{IsCell, bits}
use Rattle.fs_model.specs.Event.{goes_on}
use Rattle.fs_model.specs.Machine.{turn}
use Rattle.fs_model.specs.Run.{State, after, run, flipped}
use Rattle.rv_machine.specs.Machines.{MachineData}

-- the state with the flip, from which the injected run goes on
abbrev pub from_flip : CaseData → Site → State
from_flip c site = flipped (after c site.cycle) site.cell site.bit

-- The state after n instructions. With a flip it is the run without one before the cycle, and at the cycle the bit is flipped.
unfoldable pub state_at : CaseData → Option Site → ℕ → State
state_at c None n = after c n
state_at c (Some site) n = if nat_lt n site.cycle then after c n else run c (n - site.cycle) (from_flip c site)

-- what the next instruction tells
abbrev pub event_at : CaseData → Option Site → ℕ → Event
event_at c flip n = (turn c (state_at c flip n).core).event

abbrev pub ends_at : CaseData → Option Site → ℕ → Bool
ends_at c flip n = not (goes_on (event_at c flip n))

-- the first of the `count` numbers from n on that passes the test
unfoldable pub place_from : (ℕ → Bool) → ℕ → ℕ → Option ℕ
place_from test n zero = None
place_from test n (suc k) = option_or (place_from test n k) (if test (n + k) then Some (n + k) else None)

-- the last of them
unfoldable pub last_from : (ℕ → Bool) → ℕ → ℕ → Option ℕ
last_from test n zero = None
last_from test n (suc k) = if test (n + k) then Some (n + k) else last_from test n k

-- the number of instructions before the one that ends the run, or the limit
unfoldable pub last_of : CaseData → Option Site → ℕ
last_of c flip = unwrap_or (place_from (ends_at c flip) 0 c.limit) c.limit

-- ---- the flip and the machine

-- the flip, if there is one, is of a bit of a cell of the case
abbrev pub IsFlip : CaseData → Option Site → Type 0
IsFlip c None = Unit {0}
IsFlip c (Some site) = IsCell c site.cell × (site.bit < bits site.cell)

-- the machine holds the state after n instructions, and the run has sent this number of bytes
pub record IsHere (c : CaseData) (flip : Option Site) (n : ℕ) (m : MachineData) (sent : ℕ) : Type 0 where
  pub same_case : m.case ≡ c
  pub same_core : m.core ≡ (state_at c flip n).core
  pub sent_is : sent ≡ length (state_at c flip n).output

-- the machine holds the state k instructions after the flip
pub record IsOn (c : CaseData) (site : Site) (k : ℕ) (m : MachineData) (sent : ℕ) : Type 0 where
  pub same_case : m.case ≡ c
  pub same_core : m.core ≡ (run c k (from_flip c site)).core
  pub sent_is : sent ≡ length (run c k (from_flip c site)).output

-- the state with the flip, if it is due after n instructions
abbrev pub with_flip : Option Site → ℕ → State → State
with_flip None n s = s
with_flip (Some site) n s = if n == site.cycle then flipped s site.cell site.bit else s
