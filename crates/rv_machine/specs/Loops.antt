-- What a loop of steps has done.
use Rattle.std.specs.Prelude.{ℕ, ◌≡◌, ◌+◌, ◌≤◌, Bool, false, Option, Some, None}
use Rattle.fs_model.specs.declared.events.Event.{Event}
use Rattle.fs_model.specs.Case.{CaseData}
use Rattle.fs_model.specs.Machine.{Core}
use Rattle.fs_model.specs.Leg.{is_went, leg}

-- the leg from s of at most `most` steps told the event last and came to t, with `left` steps left
pub record IsEnd (c : CaseData) (s : Core) (most : ℕ) (event : Event) (t : Core) (left : ℕ) : Type 0 where
  pub event_is : event ≡ (leg c s most).event
  pub core_is : t ≡ (leg c s most).core
  pub left_is : left + (leg c s most).steps ≡ most

-- it goes on as the leg from t of the steps that are left
pub record IsRest (c : CaseData) (s : Core) (most : ℕ) (t : Core) (left : ℕ) : Type 0 where
  pub left_below : left ≤ most
  pub same_event : (leg c t left).event ≡ (leg c s most).event
  pub same_core : (leg c t left).core ≡ (leg c s most).core
  pub same_steps : left + (leg c s most).steps ≡ most + (leg c t left).steps

-- a step that was taken went on, and told nothing else
abbrev pub is_plain : Option Event → Bool
is_plain (Some event) = is_went event
is_plain None = false
