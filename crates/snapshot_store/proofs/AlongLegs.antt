-- Legs of the run without a flip.
use Rattle.std.proofs.Common.{◌≡◌, ℕ, zero, suc, ◌+◌, ◌≤◌, List, length, refl, sym, ap, ◌∙◌, arith}
use Rattle.std.proofs.lemmas.List.{length_push}
use Rattle.fs_model.specs.declared.events.Event.{Event}
use Rattle.fs_model.specs.declared.events.Event.TheVariants.{Went, Out, Halted, Detected, Trapped}
use Rattle.fs_model.specs.Case.{CaseData}
use Rattle.fs_model.specs.Machine.{Core, turn, reset}
use Rattle.fs_model.specs.Run.{State, step_by, step, start, run, after, go_on}
use Rattle.fs_model.specs.Leg.{Leg, leg, sent, left_by}
use Rattle.fs_model.proofs.Legs.{run_leg, run_add}
use Rattle.rv_machine.specs.Machines.{MachineData}
use Rattle.snapshot_store.specs.Along.{IsAt, sent_by}

sent_length : (output : List ℕ) (event : Event) → length (sent output event) ≡ length output + sent_by event
sent_length output Went = omega arith
sent_length output (Out byte) = length_push output byte
sent_length output (Halted value) = omega arith
sent_length output Detected = omega arith
sent_length output (Trapped kind) = omega arith

-- where a leg leads to
after_leg : (c : CaseData) (t most : ℕ) → after c (t + (leg c (after c t).core most).steps) ≡ left_by (after c t) (leg c (after c t).core most)
unfolding after
after_leg c t most = run_add c t (leg c (run c t (start c)).core most).steps (start c) ∙ run_leg c (run c t (start c)) most

pub at_leg : (c : CaseData) (t sent most n : ℕ) (m m' : MachineData) (event : Event) → IsAt c t m sent → event ≡ (leg m.case m.core most).event → n ≡ (leg m.case m.core most).steps
    → m'.core ≡ (leg m.case m.core most).core → m'.case ≡ m.case → IsAt c (t + n) m' (sent + sent_by event)
at_leg c t sent most n m m' event h e count core same =
    let l : Leg = leg c (after c t).core most in
    let legs : leg m.case m.core most ≡ l = ap (λ (x : CaseData). leg x m.core most) h.same_case ∙ ap (λ (k : Core). leg c k most) h.same_core in
    let e' : event ≡ l.event = e ∙ ap (λ (x : Leg). x.event) legs in
    let n' : n ≡ l.steps = count ∙ ap (λ (x : Leg). x.steps) legs in
    let there : after c (t + n) ≡ left_by (after c t) l = ap (λ (k : ℕ). after c (t + k)) n' ∙ after_leg c t most in
    record {
      same_case = same ∙ h.same_case;
      same_core = core ∙ ap (λ (x : Leg). x.core) legs ∙ ap (λ (s : State). s.core) (sym there);
      sent_is = ap (λ (x : Event). sent + sent_by x) e' ∙ ap (λ (k : ℕ). k + sent_by l.event) h.sent_is ∙ sym (sent_length (after c t).output l.event) ∙ ap (λ (s : State). length s.output) (sym there);
    }

step_few : (output : List ℕ) (event : Event) (core : Core) (s : State) → length (go_on (step_by output event core) (record { core = s.core; output = output })).output ≤ length output + 1
unfolding step_by go_on
step_few output Went core s = omega arith
step_few output (Out byte) core s = omega (arith, length_push output byte)
step_few output (Halted value) core s = omega arith
step_few output Detected core s = omega arith
step_few output (Trapped kind) core s = omega arith

-- a step sends a byte at most
pub sent_few : (c : CaseData) (t : ℕ) → length (after c t).output ≤ t
unfolding after run start step
sent_few c zero = omega arith
sent_few c (suc t) =
    let few = step_few (after c t).output (turn c (after c t).core).event (turn c (after c t).core).core (after c t) in
    let before = sent_few c t in
    omega (arith, few, before)

pub sent_one : (event : Event) → sent_by event ≤ 1
sent_one Went = omega arith
sent_one (Out byte) = omega arith
sent_one (Halted value) = omega arith
sent_one Detected = omega arith
sent_one (Trapped kind) = omega arith

-- a machine of the same case
pub at_case : (c c' : CaseData) (t sent : ℕ) (m : MachineData) → c' ≡ c → IsAt c' t m sent → IsAt c t m sent
at_case c c' t sent m e h = rw e at h

pub at_first : (c : CaseData) (m : MachineData) → m ≡ record { case = c; core = reset c; taken = 0 } → IsAt c 0 m 0
unfolding after run start
at_first c m e = rw e (record { same_case = refl; same_core = refl; sent_is = refl })
