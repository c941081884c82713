-- An injected run on its way.
use Rattle.std.specs.Prelude.{◌≡◌, ◌⊎◌, ℕ, ◌+◌, ◌-◌, ◌%◌, ◌<◌, ◌≤◌, List, false}
use Rattle.fs_model.specs.declared.outcomes.Outcome.{Outcome}
use Rattle.fs_model.specs.Case.{CaseData}
use Rattle.fs_model.specs.Run.{State, Halt, Ended, run, ending}
use Rattle.fs_model.specs.Leg.{later}
use Rattle.fs_model.specs.Outcome.{compare}
use Rattle.rv_machine.specs.Machines.{MachineData}
use Rattle.outcome_class.specs.Seen.{WatchData, watching, going}
use Rattle.snapshot_store.specs.Along.{Rose}
use Rattle.experiment.specs.declared.reference.Reference.{Reference}
use Rattle.experiment.specs.Jobs.{rejoins, steps_until}

-- the run from s, whose limit is `limit` steps, is here after k of them, and `left` steps of the limit remain
pub record Follows (c : CaseData) (s : State) (exit : ℕ) (golden : List ℕ) (before limit k left : ℕ) (m : MachineData) (w : WatchData) : Type 0 where
  pub output : List ℕ
  pub same_case : m.case ≡ c
  pub watch : w ≡ watching exit golden (going output)
  pub stands : run c k s ≡ record { core = m.core; output = output }
  pub rest : ending c limit s ≡ later k (ending c left (record { core = m.core; output = output }))
  pub taken : Rose before k m.taken

-- a leg that ends at the next kept cycle at the latest, or where none is left
abbrev pub IsShortLeg : ℕ → ℕ → ℕ → ℕ → Type 0
IsShortLeg k n at most = (most ≤ k - at % k) ⊎ (n ≤ at)

-- the run from s, which is a state at `cycle`, is here at the cycle `at`, and was not in the golden run's state at a kept cycle since
pub record IsUnderWay (r : Reference) (cycle before : ℕ) (s : State) (at : ℕ) (m : MachineData) (w : WatchData) : Type 0 where
  pub order : cycle ≤ at
  pub within : at ≤ r.case.now.limit
  pub follows : Follows r.case.now s r.golden.now.exit r.golden.now.output before (r.case.now.limit - cycle) (at - cycle) (r.case.now.limit - at) m w
  pub none : (i : ℕ) → i < at - cycle + 1 → rejoins r.case.now r.snaps.now.spacing r.snaps.now.count cycle s i ≡ false

-- the run from s has this outcome, and the machine has taken its steps
pub record HasEnded (r : Reference) (cycle before : ℕ) (s : State) (o : Outcome) (m : MachineData) : Type 0 where
  pub outcome : (n : ℕ) → o ≡ compare (Ended (Halt r.golden.now.exit) n r.golden.now.output) (ending r.case.now (r.case.now.limit - cycle) s)
  pub taken : Rose before (steps_until r.case.now r.snaps.now.spacing r.snaps.now.count cycle s) m.taken
  pub case : m.case ≡ r.case.now
