-- Runs that hold the same, but have sent other bytes before.
use Rattle.std.proofs.Common.{◌≡◌, ℕ, zero, suc, ◌+◌, ◌≤◌, List, [], ◌∷◌, ◌++◌, Option, length, drop, refl, sym, ◌∙◌, ap, arith, append_assoc, append-nil, length-append}
use Rattle.fs_model.specs.declared.events.Event.{Event}
use Rattle.fs_model.specs.declared.events.Event.TheVariants.{Went, Out, Halted, Detected, Trapped}
use Rattle.fs_model.specs.Case.{CaseData}
use Rattle.fs_model.specs.Machine.{Core, turn}
use Rattle.fs_model.specs.Run.{State, End, Ending, Ended, Over, step_by, step, one_step_more, follow, ending, go_on, run}
use Rattle.run_answers.specs.Answers.{Answer, answer_by, answer_from, answer_with, end_by}

-- an ending with bytes before its output
unfoldable pub with_front : List ℕ → Ending → Ending
with_front front (Ended end n out) = Ended end n (front ++ out)
with_front front Over = Over

front_more : (front : List ℕ) (e : Ending) → one_step_more (with_front front e) ≡ with_front front (one_step_more e)
unfolding with_front one_step_more
front_more front (Ended end n out) = refl
front_more front Over = refl

-- a run does the same whatever was sent before it
pub same_end : (c : CaseData) (k : ℕ) (core : Core) (front old : List ℕ)
    → ending c k (record { core = core; output = front ++ old }) ≡ with_front front (ending c k (record { core = core; output = old }))
unfolding ending step step_by follow with_front
same_end c zero core front old = refl
same_end c (suc k) core front old = by (λ next sent. same_end c k next front sent) (turn c core).event (turn c core).core
  where
    by : ((next : Core) (sent : List ℕ) → ending c k (record { core = next; output = front ++ sent }) ≡ with_front front (ending c k (record { core = next; output = sent })))
        → (e : Event) (next : Core) → follow (step_by (front ++ old) e next) (front ++ old) (ending c k) ≡ with_front front (follow (step_by old e next) old (ending c k))
    by rest Went next = ap one_step_more (rest next old) ∙ front_more front (ending c k (record { core = next; output = old }))
    by rest (Out byte) next =
        ap (λ (o : List ℕ). one_step_more (ending c k (record { core = next; output = o }))) (append_assoc front old (byte ∷ []))
        ∙ ap one_step_more (rest next (old ++ byte ∷ []))
        ∙ front_more front (ending c k (record { core = next; output = old ++ byte ∷ [] }))
    by rest (Halted value) next = refl
    by rest Detected next = refl
    by rest (Trapped kind) next = refl

-- a state with bytes before its output
abbrev before : List ℕ → State → State
before front s = record { core = s.core; output = front ++ s.output }

same_step : (c : CaseData) (front : List ℕ) (t : State) → go_on (step c (before front t)) (before front t) ≡ before front (go_on (step c t) t)
unfolding step step_by go_on
same_step c front t = by (turn c t.core).event (turn c t.core).core
  where
    by : (e : Event) (next : Core) → go_on (step_by (front ++ t.output) e next) (before front t) ≡ before front (go_on (step_by t.output e next) t)
    by Went next = refl
    by (Out byte) next = ap (λ (o : List ℕ). record { core = next; output = o }) (append_assoc front t.output (byte ∷ []))
    by (Halted value) next = refl
    by Detected next = refl
    by (Trapped kind) next = refl

same_run : (c : CaseData) (k : ℕ) (front : List ℕ) (s : State) → run c k (before front s) ≡ before front (run c k s)
unfolding run
same_run c zero front s = refl
same_run c (suc k) front s = ap (λ (t : State). go_on (step c t) t) (same_run c k front s) ∙ same_step c front (run c k s)

-- an answer with bytes before its output
abbrev answer_behind : List ℕ → Answer → Answer
answer_behind front a = record { output = front ++ a.output; end = a.end }

front_answer : (front at : List ℕ) (e : Ending) → answer_by (front ++ at) (with_front front e) ≡ answer_behind front (answer_by at e)
unfolding with_front
front_answer front at (Ended end n out) = refl
front_answer front at Over = refl

-- the answer of a run that has sent nothing
abbrev fresh : CaseData → ℕ → Core → Answer
fresh c k core = answer_from c k (record { core = core; output = [] })

same_answer : (c : CaseData) (k : ℕ) (core : Core) (front : List ℕ) → answer_from c k (record { core = core; output = front }) ≡ answer_behind front (fresh c k core)
unfolding answer_from
same_answer c k core front =
    let none : List ℕ = [] in
    let s : State = record { core = core; output = none } in
    let e : State = record { core = core; output = front ++ none } in
    ap (λ (o : List ℕ). answer_from c k (record { core = core; output = o })) (sym (append-nil front))
    ∙ ap (λ (t : State). answer_by t.output (ending c k e)) (same_run c k front s)
    ∙ ap (answer_by (front ++ (run c k s).output)) (same_end c k core front none)
    ∙ front_answer front (run c k s).output (ending c k s)

pub drop_front : (a b : List ℕ) → drop (length a) (a ++ b) ≡ b
drop_front [] b = refl
drop_front (x ∷ a) b = drop_front a b

whole_is : (c : CaseData) (k : ℕ) (core : Core) (front output : List ℕ) (last : Event) → answer_from c k (record { core = core; output = front }) ≡ answer_with output last
    → front ++ (fresh c k core).output ≡ output
whole_is c k core front output last is = ap (λ (a : Answer). a.output) (sym (same_answer c k core front) ∙ is)

-- the bytes that a run had sent are no more than all
pub sent_within : (c : CaseData) (k sent : ℕ) (core : Core) (front output : List ℕ) (last : Event) → length front ≡ sent
    → answer_from c k (record { core = core; output = front }) ≡ answer_with output last → sent ≤ length output
sent_within c k sent core front output last long is =
    let whole : length front + length (fresh c k core).output ≡ length output =
    sym (length-append front (fresh c k core).output) ∙ ap length (whole_is c k core front output last is) in
    omega (arith, long, whole)

-- the rest of a run does not depend on what it has sent before
pub rest_after : (c : CaseData) (k sent : ℕ) (core : Core) (front output : List ℕ) (last : Event) → length front ≡ sent
    → answer_from c k (record { core = core; output = front }) ≡ answer_with output last
    → (out : List ℕ) → answer_from c k (record { core = core; output = out }) ≡ answer_with (out ++ drop sent output) last
rest_after c k sent core front output last long is out =
    let a = fresh c k core in
    let bytes : a.output ≡ drop sent output =
    sym (drop_front front a.output) ∙ ap (drop (length front)) (whole_is c k core front output last is) ∙ ap (λ (n : ℕ). drop n output) long in
    let end : a.end ≡ end_by last = ap (λ (x : Answer). x.end) (sym (same_answer c k core front) ∙ is) in
    same_answer c k core out
    ∙ ap (λ (x : List ℕ). record { output = out ++ x; end = a.end }) bytes
    ∙ ap (λ (x : Option End). record { output = out ++ drop sent output; end = x }) end
