-- Legs: steps one after another, until one tells more than that it went on, or a number of steps was taken.
use Rattle.std.specs.Prelude.{ℕ, zero, suc, ◌≡◌, ◌+◌, ◌<◌, Bool, true, false, if◌then◌else◌, List, [], ◌∷◌, ◌++◌}
use Rattle.fs_model.specs.declared.events.Event.{Event}
use Rattle.fs_model.specs.declared.events.Event.TheVariants.{Went, Out, Halted, Detected, Trapped}
use Rattle.fs_model.specs.Case.{CaseData}
use Rattle.fs_model.specs.Machine.{Core, turn}
use Rattle.fs_model.specs.Run.{State, Step, Next, Stop, step_by, step, run, Ending, Ended, Over}

-- what the last step told (Went where all were taken), what the machine holds then, and how many steps were taken
pub record Leg : Type 0 where
  pub event : Event
  pub core : Core
  pub steps : ℕ

-- the step went on, and told nothing else
abbrev pub is_went : Event → Bool
is_went Went = true
is_went (Out byte) = false
is_went (Halted value) = false
is_went Detected = false
is_went (Trapped kind) = false

-- a step before the rest of a leg; one that tells more has no rest
unfoldable pub onward : Event → Core → Leg → Leg
onward event s rest = if is_went event then record rest { steps = rest.steps + 1 } else record { event = event; core = s; steps = 1 }

-- the leg from s, of at most k steps
unfoldable pub leg : CaseData → Core → ℕ → Leg
leg c s zero = record { event = Went; core = s; steps = 0 }
leg c s (suc k) = onward (turn c s).event (turn c s).core (leg c (turn c s).core k)

-- ---- legs of a run

-- the output with what an event sends
abbrev pub sent : List ℕ → Event → List ℕ
sent output Went = output
sent output (Out byte) = output ++ byte ∷ []
sent output (Halted value) = output
sent output Detected = output
sent output (Trapped kind) = output

-- the state that a leg leaves
abbrev pub left_by : State → Leg → State
left_by s l = record { core = l.core; output = sent s.output l.event }

-- a run that ends k steps later
unfoldable pub later : ℕ → Ending → Ending
later k (Ended end steps output) = Ended end (steps + k) output
later k Over = Over

-- a run whose first steps, k of them, come to this step; one that ends the run has no rest
unfoldable pub follow_leg : Step → ℕ → List ℕ → (State → Ending) → Ending
follow_leg (Stop end) k output rest = Ended end k output
follow_leg (Next s) k output rest = later k (rest s)

-- what a leg comes to, as one step
abbrev pub step_of : State → Leg → Step
step_of s l = step_by s.output l.event l.core

-- the first k steps from s go on
abbrev pub GoesFor : CaseData → State → ℕ → Type 0
GoesFor c s k = (i : ℕ) → i < k → step c (run c i s) ≡ Next (run c (i + 1) s)
