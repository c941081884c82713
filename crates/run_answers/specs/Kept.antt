-- The states that runs had: those that are kept, each with the rest of its run, and those that the run in hand has passed.
use Rattle.std.specs.Prelude.{◌≡◌, ℕ, ◌-◌, ◌<◌, ◌≤◌, List, All, IfSome, length, slice_index_or}
use Rattle.fs_model.specs.Case.{CaseData}
use Rattle.run_answers.specs.Answers.{Answer, answer_from}
use Rattle.run_answers.specs.Legs.{IsRestAt}
use Rattle.run_answers.specs.declared.kept.Kept.{Kept}
use Rattle.run_answers.specs.declared.kept.KeptState.{KeptState}
use Rattle.run_answers.specs.declared.kept.PassedState.{PassedState}

-- what is kept with a state is its rest
pub record IsKeptState (c : CaseData) (s : KeptState) : Type 0 where
  pub machine : s.machine.case ≡ c
  pub rest : IfSome s.last (λ last. IsRestAt c s.cycle s.machine.core s.bytes.items last)

-- a run with this answer has passed the state
pub record IsPassed (c : CaseData) (answer : Answer) (s : PassedState) : Type 0 where
  pub before : List ℕ
  pub sent : length before ≡ s.sent
  pub answer_is : answer_from c (c.limit - s.cycle) (record { core = s.machine.core; output = before }) ≡ answer

-- a run with this answer has passed the states that are noted
abbrev pub HasPassed : CaseData → Answer → Kept → Type 0
HasPassed c answer kept = (k : ℕ) (d : PassedState) → k < kept.passed → IsPassed c answer (slice_index_or kept.trail.items k d)

-- all states are of the case
pub record IsKeptOf (c : CaseData) (kept : Kept) : Type 0 where
  pub case : kept.case.now ≡ c
  pub some : 1 ≤ length kept.states.items
  pub states : All (λ (s : KeptState). IsKeptState c s) kept.states.items
  pub trail : All (λ (s : PassedState). s.machine.case ≡ c) kept.trail.items
  pub passed : kept.passed ≤ length kept.trail.items
