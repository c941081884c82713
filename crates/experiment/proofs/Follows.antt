-- A run that is followed leg by leg.
use Rattle.std.proofs.Common.{◌≡◌, ℕ, ◌+◌, ◌-◌, ◌≤◌, true, false, List, Some, refl, sym, ◌∙◌, ap, subst, arith}
use Rattle.std.specs.Prelude.{min, take, ◌^◌}
use Rattle.fs_model.specs.declared.events.Event.{Event}
use Rattle.fs_model.specs.declared.events.Event.TheVariants.{Went, Out, Halted, Detected, Trapped}
use Rattle.fs_model.specs.declared.outcomes.Outcome.{Outcome}
use Rattle.fs_model.specs.Case.{CaseData}
use Rattle.fs_model.specs.Event.{goes_on}
use Rattle.fs_model.specs.Machine.{Core}
use Rattle.fs_model.specs.Run.{State, Step, Next, Stop, End, Halt, Detect, Fault, Ending, Ended, Over, step_by, run, ending}
use Rattle.fs_model.specs.Leg.{Leg, leg, sent, later, follow_leg}
use Rattle.fs_model.specs.Outcome.{compare}
use Rattle.fs_model.proofs.Legs.{ending_leg, run_add, run_leg}
use Rattle.rv_machine.specs.Machines.{MachineData}
use Rattle.outcome_class.specs.Seen.{Seen, WatchData, watching, going, seen_golden, seen_by, row}
use Rattle.snapshot_store.specs.Along.{Rose}
use Rattle.experiment.specs.Steps.{steps_of, begun}
use Rattle.experiment.specs.UnderWay.{Follows}

-- an event after which a run goes on
pub next_after : (output : List ℕ) (event : Event) (core : Core) → goes_on event ≡ true → step_by output event core ≡ Next (record { core = core; output = sent output event })
unfolding step_by
next_after output Went core h = refl
next_after output (Out byte) core h = refl
next_after output (Halted value) core h = absurd cc
next_after output Detected core h = absurd cc
next_after output (Trapped kind) core h = absurd cc

-- an event after which it does not
ended : (output : List ℕ) (event : Event) (core : Core) → goes_on event ≡ false → (end : End) × (step_by output event core ≡ Stop end)
unfolding step_by
ended output Went core h = absurd cc
ended output (Out byte) core h = absurd cc
ended output (Halted value) core h = (Halt value, refl)
ended output Detected core h = (Detect, refl)
ended output (Trapped kind) core h = (Fault kind, refl)

-- so many steps later, and then so many more
later_both : (a b : ℕ) (e : Ending) → later a (later b e) ≡ later (b + a) e
unfolding later
later_both a b (Ended end steps output) = ap (λ (n : ℕ). Ended end n output) (omega arith)
later_both a b Over = refl

later_none : (e : Ending) → e ≡ later 0 e
unfolding later
later_none (Ended end steps output) = ap (λ (n : ℕ). Ended end n output) (omega arith)
later_none Over = refl

-- a leg of the machine
pub record Ran (most : ℕ) (m m' : MachineData) (event : Event) (steps : ℕ) : Type 0 where
  pub event_is : event ≡ (leg m.case m.core most).event
  pub steps_is : steps ≡ (leg m.case m.core most).steps
  pub core_is : m'.core ≡ (leg m.case m.core most).core
  pub case_is : m'.case ≡ m.case
  pub taken_is : m'.taken ≡ min (m.taken + (leg m.case m.core most).steps) (2 ^ 64 - 1)
  pub bound : steps ≤ most

-- what the watch says of an event, and what it tells
abbrev pub Sees : Event → WatchData → WatchData → Type 0
Sees event w w' = (exit : ℕ) (golden output : List ℕ) (core : Core) → w ≡ watching exit golden (going output) → w' ≡ watching exit golden (seen_by output (step_by output event core))

abbrev pub Tells : WatchData → Outcome → Type 0
Tells w o = (exit : ℕ) (golden : List ℕ) (seen : Seen) (golden_steps steps : ℕ) → w ≡ watching exit golden seen → o ≡ row exit golden golden_steps steps seen

pub first : (exit : ℕ) (golden : List ℕ) (sent limit : ℕ) (m : MachineData) (w : WatchData) → m.taken ≤ 2 ^ 64 - 1 → w ≡ watching exit golden (going (take sent golden))
    → Follows m.case (begun m.core golden sent) exit golden m.taken limit 0 limit m w
unfolding run
first exit golden sent limit m w few e = record {
  output = take sent golden;
  same_case = refl;
  watch = e;
  stands = refl;
  rest = later_none (ending m.case limit (begun m.core golden sent));
  taken = omega (arith, few);
}

rose_more : (before k n taken taken' : ℕ) → Rose before k taken → taken' ≡ min (taken + n) (2 ^ 64 - 1) → Rose before (k + n) taken'
rose_more before k n taken taken' h e = omega (arith, h, e)

-- the leg that the machine ran, as one of the case
ran_leg : (c : CaseData) (most : ℕ) (m : MachineData) → m.case ≡ c → leg m.case m.core most ≡ leg c m.core most
ran_leg c most m e = ap (λ (x : CaseData). leg x m.core most) e

-- what is left of a run after a leg of it
rest_leg : (c : CaseData) (core : Core) (output : List ℕ) (most left : ℕ) → (leg c core most).steps ≤ left
    → ending c left (record { core = core; output = output })
    ≡ follow_leg (step_by output (leg c core most).event (leg c core most).core) (leg c core most).steps output (ending c (left - (leg c core most).steps))
rest_leg c core output most left few = ending_leg c (record { core = core; output = output }) most left few

pub next : (c : CaseData) (s : State) (exit : ℕ) (golden : List ℕ) (before limit k left most n : ℕ) (m m' : MachineData) (w w' : WatchData) (event : Event)
    → Follows c s exit golden before limit k left m w → most ≤ left → Ran most m m' event n → goes_on event ≡ true → Sees event w w' → Follows c s exit golden before limit (k + n) (left - n) m' w'
unfolding follow_leg
next c s exit golden before limit k left most n m m' w w' event h below t on see =
    let l : Leg = leg c m.core most in
    let same : leg m.case m.core most ≡ l = ran_leg c most m h.same_case in
    let is : event ≡ l.event = t.event_is ∙ ap (λ (x : Leg). x.event) same in
    let count : n ≡ l.steps = t.steps_is ∙ ap (λ (x : Leg). x.steps) same in
    let few : l.steps ≤ left = omega (arith, t.bound, count, below) in
    let on' : goes_on l.event ≡ true = subst (λ (e : Event). goes_on e ≡ true) is on in
    let see' : Sees l.event w w' = subst (λ (e : Event). Sees e w w') is see in
    let sum : n + k ≡ k + n = omega arith in
    let output : List ℕ = sent h.output l.event in
    let there : step_by h.output l.event l.core ≡ Next (record { core = l.core; output = output }) = next_after h.output l.event l.core on' in
    let core : m'.core ≡ l.core = t.core_is ∙ ap (λ (x : Leg). x.core) same in
    let state : record { core = l.core; output = output } ≡ record { core = m'.core; output = output } = ap (λ (x : Core). record { core = x; output = output }) (sym core) in
    let stands : run c (k + n) s ≡ record { core = m'.core; output = output } =
    run_add c k n s ∙ ap (run c n) h.stands ∙ ap (λ (j : ℕ). run c j (record { core = m.core; output = h.output })) count ∙ run_leg c (record { core = m.core; output = h.output }) most ∙ state in
    let more : ending c left (record { core = m.core; output = h.output }) ≡ later n (ending c (left - n) (record { core = m'.core; output = output })) =
    rest_leg c m.core h.output most left few
    ∙ ap (λ (x : Step). follow_leg x l.steps h.output (ending c (left - l.steps))) there
    ∙ ap (λ (j : ℕ). later j (ending c (left - j) (record { core = l.core; output = output }))) (sym count)
    ∙ ap (λ (x : State). later n (ending c (left - n) x)) state in
    record {
      output = output;
      same_case = t.case_is ∙ h.same_case;
      watch = see' exit golden h.output l.core h.watch ∙ ap (λ (x : Step). watching exit golden (seen_by h.output x)) there;
      stands = stands;
      rest = h.rest ∙ ap (later k) more ∙ later_both k n (ending c (left - n) (record { core = m'.core; output = output }))
          ∙ ap (λ (j : ℕ). later j (ending c (left - n) (record { core = m'.core; output = output }))) sum;
      taken = rose_more before k n m.taken m'.taken h.taken (t.taken_is ∙ ap (λ (j : ℕ). min (m.taken + j) (2 ^ 64 - 1)) (sym t.steps_is));
    }

-- what is told of the whole run
pub record Told (c : CaseData) (s : State) (exit : ℕ) (golden : List ℕ) (before limit steps : ℕ) (o : Outcome) (m : MachineData) : Type 0 where
  pub outcome : (n : ℕ) → o ≡ compare (Ended (Halt exit) n golden) (ending c limit s)
  pub steps_are : steps_of limit (ending c limit s) ≡ steps
  pub taken : Rose before (steps_of limit (ending c limit s)) m.taken
  pub case : m.case ≡ c

pub stops : (c : CaseData) (s : State) (exit : ℕ) (golden : List ℕ) (before limit k left most n : ℕ) (m m' : MachineData) (w w' : WatchData) (event : Event) (o : Outcome)
    → Follows c s exit golden before limit k left m w → most ≤ left → Ran most m m' event n → goes_on event ≡ false → Sees event w w' → Tells w' o → Told c s exit golden before limit (k + n) o m'
unfolding follow_leg later steps_of
stops c s exit golden before limit k left most n m m' w w' event o h below t off see tells =
    let l : Leg = leg c m.core most in
    let same : leg m.case m.core most ≡ l = ran_leg c most m h.same_case in
    let is : event ≡ l.event = t.event_is ∙ ap (λ (x : Leg). x.event) same in
    let count : n ≡ l.steps = t.steps_is ∙ ap (λ (x : Leg). x.steps) same in
    let few : l.steps ≤ left = omega (arith, t.bound, count, below) in
    let off' : goes_on l.event ≡ false = subst (λ (e : Event). goes_on e ≡ false) is off in
    let see' : Sees l.event w w' = subst (λ (e : Event). Sees e w w') is see in
    let stop = ended h.output l.event l.core off' in
    let more : ending c left (record { core = m.core; output = h.output }) ≡ Ended stop.0 l.steps h.output =
    rest_leg c m.core h.output most left few ∙ ap (λ (x : Step). follow_leg x l.steps h.output (ending c (left - l.steps))) stop.1 in
    let end : ending c limit s ≡ Ended stop.0 (l.steps + k) h.output = h.rest ∙ ap (later k) more in
    let seen : w' ≡ watching exit golden (record { output = h.output; end = Some stop.0 }) =
    see' exit golden h.output l.core h.watch ∙ ap (λ (x : Step). watching exit golden (seen_by h.output x)) stop.1 in
    record {
      outcome = λ i. rw end (tells exit golden (record { output = h.output; end = Some stop.0 }) i (l.steps + k) seen);
      steps_are = rw end (omega (arith, count));
      taken = let rose = rose_more before k n m.taken m'.taken h.taken (t.taken_is ∙ ap (λ (j : ℕ). min (m.taken + j) (2 ^ 64 - 1)) (sym t.steps_is)) in rw end (omega (arith, rose, count));
      case = t.case_is ∙ h.same_case;
    }

pub lasts : (c : CaseData) (s : State) (exit : ℕ) (golden : List ℕ) (before limit k left : ℕ) (m : MachineData) (w : WatchData) (o : Outcome)
    → Follows c s exit golden before limit k left m w → left ≡ 0 → k ≡ limit → Tells w o → Told c s exit golden before limit k o m
unfolding ending later steps_of
lasts c s exit golden before limit k left m w o h none is tells =
    let end : ending c limit s ≡ Over = h.rest ∙ ap (λ (j : ℕ). later k (ending c j (record { core = m.core; output = h.output }))) none in
    record {
      outcome = λ n. rw end (tells exit golden (going h.output) n 0 h.watch);
      steps_are = rw end (sym is);
      taken = rw end (rw is at h.taken);
      case = h.same_case;
    }

pub watch_begun : (w0 w : WatchData) (exit exit' : ℕ) (golden golden' : List ℕ) (sent : ℕ) → w0 ≡ watching exit' golden' (seen_golden golden' 0) → exit' ≡ exit → golden' ≡ golden
    → w ≡ watching w0.exit w0.golden (seen_golden w0.golden sent) → w ≡ watching exit golden (going (take sent golden))
watch_begun w0 w exit exit' golden golden' sent e a b h =
    let x : w0.exit ≡ exit = ap (λ (v : WatchData). v.exit) e ∙ a in
    let y : w0.golden ≡ golden = ap (λ (v : WatchData). v.golden) e ∙ b in
    rw (x, y) at h

-- the same run, by other words
pub of_case : (c c' : CaseData) (s : State) (exit : ℕ) (golden : List ℕ) (before limit limit' k left : ℕ) (m : MachineData) (w : WatchData) → c' ≡ c → limit ≡ limit'
    → Follows c' s exit golden before limit k left m w → Follows c s exit golden before limit' k left m w
of_case c c' s exit golden before limit limit' k left m w e f h =
    subst (λ (x : CaseData). Follows x s exit golden before limit' k left m w) e (subst (λ (j : ℕ). Follows c' s exit golden before j k left m w) f h)

pub at_place : (c : CaseData) (s : State) (exit : ℕ) (golden : List ℕ) (before limit k k' left left' : ℕ) (m : MachineData) (w : WatchData) → k ≡ k' → left ≡ left'
    → Follows c s exit golden before limit k left m w → Follows c s exit golden before limit k' left' m w
at_place c s exit golden before limit k k' left left' m w e f h =
    subst (λ (j : ℕ). Follows c s exit golden before limit k' j m w) f (subst (λ (j : ℕ). Follows c s exit golden before limit j left m w) e h)
