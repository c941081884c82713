-- The answer of a run, leg by leg.
use Rattle.std.proofs.Common.{◌≡◌, ℕ, ◌+◌, ◌-◌, ◌≤◌, true, false, List, refl, sym, ◌∙◌, ap, arith}
use Rattle.fs_model.specs.declared.events.Event.{Event}
use Rattle.fs_model.specs.declared.events.Event.TheVariants.{Went, Out, Halted, Detected, Trapped}
use Rattle.fs_model.specs.Case.{CaseData}
use Rattle.fs_model.specs.Event.{goes_on}
use Rattle.fs_model.specs.Machine.{Core}
use Rattle.fs_model.specs.Run.{State, Step, Next, Ending, Ended, Over, step_by, ending, run}
use Rattle.fs_model.specs.Leg.{leg, sent, left_by, later, follow_leg}
use Rattle.fs_model.proofs.Legs.{ending_leg, run_add, run_leg}
use Rattle.run_answers.specs.Answers.{answer_by, answer_from, answer_with}

-- an event after which a run continues
next_after : (output : List ℕ) (event : Event) (core : Core) → goes_on event ≡ true → step_by output event core ≡ Next (record { core = core; output = sent output event })
unfolding step_by
next_after output Went core h = refl
next_after output (Out byte) core h = refl
next_after output (Halted value) core h = absurd cc
next_after output Detected core h = absurd cc
next_after output (Trapped kind) core h = absurd cc

answer_later : (output : List ℕ) (k : ℕ) (e : Ending) → answer_by output (later k e) ≡ answer_by output e
unfolding later
answer_later output k (Ended end n out) = refl
answer_later output k Over = refl

-- the rest of a run after a leg that goes on
on : (c : CaseData) (s : State) (k most : ℕ) → (leg c s.core most).steps ≤ k → goes_on (leg c s.core most).event ≡ true
    → answer_from c k s ≡ answer_from c (k - (leg c s.core most).steps) (left_by s (leg c s.core most))
unfolding answer_from follow_leg
on c s k most few h =
    let l = leg c s.core most in
    let t : State = left_by s l in
    let all : l.steps + (k - l.steps) ≡ k = omega arith in
    let end : ending c k s ≡ later l.steps (ending c (k - l.steps) t) =
    ending_leg c s most k few ∙ ap (λ (x : Step). follow_leg x l.steps s.output (ending c (k - l.steps))) (next_after s.output l.event l.core h) in
    let there : run c k s ≡ run c (k - l.steps) t =
    ap (λ (n : ℕ). run c n s) (sym all) ∙ run_add c l.steps (k - l.steps) s ∙ ap (run c (k - l.steps)) (run_leg c s most) in
    ap (λ (x : State). answer_by x.output (ending c k s)) there ∙ ap (answer_by (run c (k - l.steps) t).output) end
    ∙ answer_later (run c (k - l.steps) t).output l.steps (ending c (k - l.steps) t)

-- the answer of a run whose leg ends it
off : (c : CaseData) (s : State) (k most : ℕ) → (leg c s.core most).steps ≤ k → goes_on (leg c s.core most).event ≡ false → answer_from c k s ≡ answer_with s.output (leg c s.core most).event
unfolding answer_from follow_leg step_by
off c s k most few h =
    let l = leg c s.core most in
    ap (answer_by (run c k s).output) (ending_leg c s most k few) ∙ by l.event h
  where
    by : (e : Event) → goes_on e ≡ false → answer_by (run c k s).output (follow_leg (step_by s.output e (leg c s.core most).core) (leg c s.core most).steps s.output (ending c (k - (leg c s.core most).steps))) ≡ answer_with s.output e
    by Went h = absurd cc
    by (Out byte) h = absurd cc
    by (Halted value) h = refl
    by Detected h = refl
    by (Trapped kind) h = refl

-- ---- legs of a machine

-- the leg of a machine of this case
pub record IsLegOf (case : CaseData) (core : Core) (most : ℕ) (event : Event) (n : ℕ) (core' : Core) : Type 0 where
  pub event_is : event ≡ (leg case core most).event
  pub steps_is : n ≡ (leg case core most).steps
  pub core_is : core' ≡ (leg case core most).core
  pub bound : n ≤ most

pub leg_on : (c : CaseData) (core core' : Core) (at most n : ℕ) (out out' : List ℕ) (event : Event) → most + at ≤ c.limit → IsLegOf c core most event n core' → goes_on event ≡ true → out' ≡ sent out event
    → answer_from c (c.limit - at) (record { core = core; output = out }) ≡ answer_from c (c.limit - (at + n)) (record { core = core'; output = out' })
leg_on c core core' at most n out out' event low l h is =
    let few : (leg c core most).steps ≤ c.limit - at = omega (arith, low, l.steps_is, l.bound) in
    let left : c.limit - at - (leg c core most).steps ≡ c.limit - (at + n) = omega (arith, l.steps_is) in
    let goes : goes_on (leg c core most).event ≡ true = ap goes_on (sym l.event_is) ∙ h in
    let there : left_by (record { core = core; output = out }) (leg c core most) ≡ record { core = core'; output = out' } =
    ap (λ (x : Core). record { core = x; output = sent out (leg c core most).event }) (sym l.core_is)
    ∙ ap (λ (x : Event). record { core = core'; output = sent out x }) (sym l.event_is)
    ∙ ap (λ (x : List ℕ). record { core = core'; output = x }) (sym is) in
    on c (record { core = core; output = out }) (c.limit - at) most few goes
    ∙ ap (λ (n : ℕ). answer_from c n (left_by (record { core = core; output = out }) (leg c core most))) left
    ∙ ap (answer_from c (c.limit - (at + n))) there

pub leg_off : (c : CaseData) (core core' : Core) (at most n : ℕ) (out : List ℕ) (event : Event) → most + at ≤ c.limit → IsLegOf c core most event n core' → goes_on event ≡ false
    → answer_from c (c.limit - at) (record { core = core; output = out }) ≡ answer_with out event
leg_off c core core' at most n out event low l h =
    let few : (leg c core most).steps ≤ c.limit - at = omega (arith, low, l.steps_is, l.bound) in
    let stops : goes_on (leg c core most).event ≡ false = ap goes_on (sym l.event_is) ∙ h in
    off c (record { core = core; output = out }) (c.limit - at) most few stops ∙ ap (answer_with out) (sym l.event_is)

-- a run with no steps left
pub at_limit : (c : CaseData) (k : ℕ) (s : State) → k ≡ 0 → answer_from c k s ≡ answer_with s.output Went
unfolding answer_from ending run
at_limit c k s none = rw none refl
