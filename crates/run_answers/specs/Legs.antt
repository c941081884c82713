-- An injected run on its way.
use Rattle.std.specs.Prelude.{◌≡◌, ℕ, ◌-◌, ◌≤◌, true, false, List, ◌++◌}
use Rattle.fs_model.specs.declared.events.Event.{Event}
use Rattle.fs_model.specs.Case.{CaseData}
use Rattle.fs_model.specs.Event.{goes_on}
use Rattle.fs_model.specs.Machine.{Core}
use Rattle.fs_model.specs.Run.{State}
use Rattle.run_answers.specs.Answers.{answer_from, answer_with}

-- a run that holds this at a cycle sends these bytes from there on and ends with this event, whatever it has sent before
abbrev pub IsRestAt : CaseData → ℕ → Core → List ℕ → Event → Type 0
IsRestAt c cycle core bytes last = (output : List ℕ)
    → answer_from c (c.limit - cycle) (record { core = core; output = output }) ≡ answer_with (output ++ bytes) last

-- The run from s, which is a state at one cycle, has the answer of the run from t, which is a state at a later one. But if the event ends
-- the run, that answer is known: t has all bytes that the run sends.
pub record IsAnswerLeg (c : CaseData) (at later : ℕ) (s t : State) (event : Event) : Type 0 where
  pub within : later ≤ c.limit
  pub goes : goes_on event ≡ true → answer_from c (c.limit - at) s ≡ answer_from c (c.limit - later) t
  pub ends : goes_on event ≡ false → answer_from c (c.limit - at) s ≡ answer_with t.output event
