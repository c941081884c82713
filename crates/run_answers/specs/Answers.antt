-- The answer of an injected run: all bytes that it sends, and how it ends.
use Rattle.std.specs.Prelude.{ℕ, ◌==◌, ◌-◌, ◌&&◌, if◌then◌else◌, List, Option, Some, None, bytes_eq}
use Rattle.fs_model.specs.declared.events.Event.{Event}
use Rattle.fs_model.specs.declared.events.Event.TheVariants.{Went, Out, Halted, Detected, Trapped}
use Rattle.fs_model.specs.declared.outcomes.Outcome.{Outcome}
use Rattle.fs_model.specs.declared.outcomes.Outcome.TheVariants as outcomes
use Rattle.fs_model.specs.declared.sites.Site.{Site}
use Rattle.fs_model.specs.Case.{CaseData}
use Rattle.fs_model.specs.Outcome.{trap_outcome}
use Rattle.fs_model.specs.Run.{State, End, Halt, Detect, Fault, Ending, Ended, Over, after, ending, flipped, injected, run}

-- the bytes that a run sent from its first instruction on, and how it ended; no end means that the limit was reached
pub record Answer : Type 0 where
  pub output : List ℕ
  pub end : Option End

-- the answer of a run with this ending; a run that reached the limit had sent these bytes by then
abbrev pub answer_by : List ℕ → Ending → Answer
answer_by at_limit (Ended end steps output) = record { output = output; end = Some end }
answer_by at_limit Over = record { output = at_limit; end = None }

-- the answer of a run that continues from a state for k steps at most
unfoldable pub answer_from : CaseData → ℕ → State → Answer
answer_from c k s = answer_by (run c k s).output (ending c k s)

-- the answer of the injected run of a site
unfoldable pub answer_of : CaseData → Site → Answer
answer_of c site = answer_by (run c (c.limit - site.cycle) (flipped (after c site.cycle) site.cell site.bit)).output (injected c site)

-- ---- what the code has of an answer

-- the end that an event is; an event after which a run continues is none, and a run whose last event it is reached the limit
abbrev pub end_by : Event → Option End
end_by Went = None
end_by (Out byte) = None
end_by (Halted value) = Some (Halt value)
end_by Detected = Some Detect
end_by (Trapped kind) = Some (Fault kind)

-- the answer of a run that sent these bytes and whose last event was this
abbrev pub answer_with : List ℕ → Event → Answer
answer_with output last = record { output = output; end = end_by last }

-- the outcome of an answer, where the golden run halted with this value and sent these bytes
abbrev pub outcome_with : ℕ → List ℕ → List ℕ → Event → Outcome
outcome_with exit golden output Went = outcomes.Timeout
outcome_with exit golden output (Out byte) = outcomes.Timeout
outcome_with exit golden output (Halted value) = if (exit == value) && bytes_eq golden output then outcomes.NoEffect else outcomes.Silent
outcome_with exit golden output Detected = outcomes.Detected
outcome_with exit golden output (Trapped kind) = trap_outcome kind
