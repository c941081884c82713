-- A machine along the run without a flip.
use Rattle.std.specs.Prelude.{ℕ, ◌≡◌, ◌+◌, ◌-◌, ◌^◌, length, min}
use Rattle.fs_model.specs.declared.events.Event.{Event}
use Rattle.fs_model.specs.declared.events.Event.TheVariants.{Went, Out, Halted, Detected, Trapped}
use Rattle.fs_model.specs.Case.{CaseData}
use Rattle.fs_model.specs.Run.{after}
use Rattle.rv_machine.specs.Machines.{MachineData}

-- how many bytes an event sends
abbrev pub sent_by : Event → ℕ
sent_by Went = 0
sent_by (Out byte) = 1
sent_by (Halted value) = 0
sent_by Detected = 0
sent_by (Trapped kind) = 0

-- the machine is one of the case and holds what the run without a flip holds after t steps; that run has sent `sent` bytes
pub record IsAt (c : CaseData) (t : ℕ) (m : MachineData) (sent : ℕ) : Type 0 where
  pub same_case : m.case ≡ c
  pub same_core : m.core ≡ (after c t).core
  pub sent_is : sent ≡ length (after c t).output

-- a count of 64 bits rose by so much, but not above its greatest number
abbrev pub Rose : ℕ → ℕ → ℕ → Type 0
Rose before much after = after ≡ min (before + much) (2 ^ 64 - 1)
