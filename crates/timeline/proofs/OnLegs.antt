-- Legs of the run after the flip.
use Rattle.std.proofs.Common.{◌≡◌, ℕ, zero, suc, ◌+◌, ◌≤◌, List, length, refl, sym, ap, ◌∙◌, arith}
use Rattle.std.proofs.lemmas.List.{length_push}
use Rattle.fs_model.specs.declared.events.Event.{Event}
use Rattle.fs_model.specs.declared.events.Event.TheVariants.{Went, Out, Halted, Detected, Trapped}
use Rattle.fs_model.specs.declared.sites.Site.{Site}
use Rattle.fs_model.specs.Case.{CaseData}
use Rattle.fs_model.specs.Machine.{Core, turn}
use Rattle.fs_model.specs.Run.{State, step_by, step, run, flipped, after, go_on}
use Rattle.fs_model.specs.Leg.{Leg, leg, sent, left_by}
use Rattle.fs_model.proofs.Legs.{run_leg, run_add}
use Rattle.rv_machine.specs.Machines.{MachineData}
use Rattle.snapshot_store.specs.Along.{sent_by}
use Rattle.snapshot_store.proofs.AlongLegs as along
use Rattle.timeline.specs.Places.{from_flip, IsOn}

sent_length : (output : List ℕ) (event : Event) → length (sent output event) ≡ length output + sent_by event
sent_length output Went = omega arith
sent_length output (Out byte) = length_push output byte
sent_length output (Halted value) = omega arith
sent_length output Detected = omega arith
sent_length output (Trapped kind) = omega arith

leg_on : (c : CaseData) (s : State) (k most : ℕ) → run c (k + (leg c (run c k s).core most).steps) s ≡ left_by (run c k s) (leg c (run c k s).core most)
leg_on c s k most = run_add c k (leg c (run c k s).core most).steps s ∙ run_leg c (run c k s) most

-- a leg leads to a later place
pub on_leg : (c : CaseData) (site : Site) (k bytes most n : ℕ) (m m' : MachineData) (event : Event) → IsOn c site k m bytes → event ≡ (leg m.case m.core most).event → n ≡ (leg m.case m.core most).steps
    → m'.core ≡ (leg m.case m.core most).core → m'.case ≡ m.case → IsOn c site (k + n) m' (bytes + sent_by event)
on_leg c site k bytes most n m m' event h e count core same =
    let s : State = from_flip c site in
    let l : Leg = leg c (run c k s).core most in
    let legs : leg m.case m.core most ≡ l = ap (λ (x : CaseData). leg x m.core most) h.same_case ∙ ap (λ (x : Core). leg c x most) h.same_core in
    let e' : event ≡ l.event = e ∙ ap (λ (x : Leg). x.event) legs in
    let n' : n ≡ l.steps = count ∙ ap (λ (x : Leg). x.steps) legs in
    let there : run c (k + n) s ≡ left_by (run c k s) l = ap (λ (i : ℕ). run c (k + i) s) n' ∙ leg_on c s k most in
    record {
      same_case = same ∙ h.same_case;
      same_core = core ∙ ap (λ (x : Leg). x.core) legs ∙ ap (λ (x : State). x.core) (sym there);
      sent_is = ap (λ (x : Event). bytes + sent_by x) e' ∙ ap (λ (i : ℕ). i + sent_by l.event) h.sent_is ∙ sym (sent_length (run c k s).output l.event) ∙ ap (λ (x : State). length x.output) (sym there);
    }

step_few : (output : List ℕ) (event : Event) (core : Core) (s : State) → length (go_on (step_by output event core) (record { core = s.core; output = output })).output ≤ length output + 1
unfolding step_by go_on
step_few output Went core s = omega arith
step_few output (Out byte) core s = omega (arith, length_push output byte)
step_few output (Halted value) core s = omega arith
step_few output Detected core s = omega arith
step_few output (Trapped kind) core s = omega arith

-- a step sends a byte at most
run_few : (c : CaseData) (s : State) (k : ℕ) → length (run c k s).output ≤ length s.output + k
unfolding run step
run_few c s zero = omega arith
run_few c s (suc k) =
    let few = step_few (run c k s).output (turn c (run c k s).core).event (turn c (run c k s).core).core (run c k s) in
    let before = run_few c s k in
    omega (arith, few, before)

flip_sends : (c : CaseData) (site : Site) → (from_flip c site).output ≡ (after c site.cycle).output
unfolding flipped
flip_sends c site = refl

pub on_few : (c : CaseData) (site : Site) (k : ℕ) → length (run c k (from_flip c site)).output ≤ site.cycle + k
on_few c site k =
    let few = run_few c (from_flip c site) k in
    let before = along.sent_few c site.cycle in
    let same : length (from_flip c site).output ≡ length (after c site.cycle).output = ap (λ (x : List ℕ). length x) (flip_sends c site) in
    omega (arith, few, before, same)
