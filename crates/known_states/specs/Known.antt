-- Keys of states, and what is known of them.
use Rattle.std.specs.Prelude.{ℕ, ◌≡◌, ◌-◌, List, Option}
use Rattle.fs_model.specs.declared.outcomes.Outcome.{Outcome}
use Rattle.fs_model.specs.Case.{CaseData}
use Rattle.fs_model.specs.Machine.{Core}
use Rattle.fs_model.specs.Run.{Ended, Halt, after, ending}
use Rattle.fs_model.specs.Outcome.{compare}
use Rattle.rv_machine.specs.Machines.{MachineData}
use Rattle.golden_trace.specs.Goldens.{GoldenData}
use Rattle.outcome_class.specs.Seen.{sent_of}
use Rattle.snapshot_store.specs.Stored.{SnapsData, kept_at_most}
use Rattle.known_states.specs.declared.changes.Change.{Change}
use Rattle.known_states.specs.Changes.{changed}

-- The states at a cycle in which the machine holds this and `sent` golden bytes were sent, and no other; or, if that is
-- None, in which another byte was sent.
pub record States : Type 0 where
  pub core : Core
  pub cycle : ℕ
  pub sent : Option ℕ

-- the state that the machine holds, at that cycle
abbrev pub here : MachineData → ℕ → Option ℕ → States
here m cycle sent = record { core = m.core; cycle = cycle; sent = sent }

-- RAM is kept as what differs from a kept state
pub record KeyData : Type 0 where
  pub cycle : ℕ
  pub sent : Option ℕ
  pub pc : ℕ
  pub registers : List ℕ
  pub changes : List Change

-- the states that a key represents
abbrev pub stands_for : SnapsData → KeyData → States
stands_for snaps key = record {
  core = record { pc = key.pc; regs = key.registers; ram = changed (after snaps.case (kept_at_most snaps.spacing snaps.count key.cycle)).core.ram key.changes };
  cycle = key.cycle;
  sent = key.sent;
}

-- runs from these states, which sent as much, end alike
pub record AreAlike (c : CaseData) (a b : States) : Type 0 where
  pub cycle : a.cycle ≡ b.cycle
  pub sent : a.sent ≡ b.sent
  pub ends : (k : ℕ) (output : List ℕ) → ending c k (record { core = a.core; output = output }) ≡ ending c k (record { core = b.core; output = output })

-- from each of the states, a run goes on to this outcome
pub record IsKnown (c : CaseData) (g : GoldenData) (states : States) (o : Outcome) : Type 0 where
  pub outcome : (n : ℕ) (output : List ℕ) → sent_of g.output output ≡ states.sent
      → o ≡ compare (Ended (Halt g.exit) n g.output) (ending c (c.limit - states.cycle) (record { core = states.core; output = output }))

-- what a table is of
pub record TableData : Type 0 where
  pub snaps : SnapsData
  pub golden : GoldenData
