-- A pass along a run.
use Rattle.std.proofs.Common.{◌≡◌, ℕ, zero, suc, ◌+◌, ◌*◌, ◌<◌, ◌≤◌, ◌==◌, Bool, true, false, not, if◌then◌else◌, List, [], ◌∷◌, length, Option, Some, None, refl, sym, ap, ◌∙◌, arith, unwrap_or}
use Rattle.fs_model.specs.declared.events.Event.{Event}
use Rattle.fs_model.specs.declared.events.Event.TheVariants.{Went, Out, Halted, Detected, Trapped}
use Rattle.fs_model.specs.declared.sites.Site.{Site}
use Rattle.fs_model.specs.Case.{CaseData}
use Rattle.fs_model.specs.Cell.{flip}
use Rattle.fs_model.specs.Event.{goes_on}
use Rattle.fs_model.specs.Leg.{sent}
use Rattle.fs_model.specs.Machine.{Core, turn, reset}
use Rattle.fs_model.specs.Run.{State, start, step_by, step, go_on, flipped}
use Rattle.fs_model.proofs.Legs.{turn_stays}
use Rattle.rv_machine.specs.Machines.{MachineData}
use Rattle.timeline.specs.Places.{state_at, event_at, ends_at, place_from, last_of, with_flip, IsHere}
use Rattle.timeline.specs.Kept.{KeptData, IsKeptTo}
use Rattle.timeline.specs.Timelines.{IsRunEnd}
use Rattle.timeline.specs.Pass.{flipped_core}
use Rattle.timeline.proofs.States.{state_next, state_first}
use Rattle.timeline.proofs.Searches.{first_no, first_yes, first_stays}

-- so far
pub record Passing (c : CaseData) (flips : Option Site) (spacing place next : ℕ) (kept : List KeptData) (output : List ℕ) (m : MachineData) : Type 0 where
  pub here : IsHere c flips place m (length output)
  pub output_is : output ≡ (state_at c flips place).output
  pub states : IsKeptTo c flips spacing kept next
  pub order : place ≤ next
  pub goes : place_from (ends_at c flips) 0 place ≡ None

no_bytes : (list : List ℕ) → 0 ≡ length list → [] ≡ list
no_bytes [] e = refl
no_bytes (b ∷ rest) e = absurd (omega arith)

pub pass_first : (c : CaseData) (flips : Option Site) (spacing next : ℕ) (kept : List KeptData) (output : List ℕ) (m : MachineData) → kept ≡ [] → output ≡ [] → next ≡ 0 → IsHere c flips 0 m 0 → Passing c flips spacing 0 next kept output m
unfolding place_from
pass_first c flips spacing next kept output m none empty start h = rw (none, empty, start) (record {
  here = record { same_case = h.same_case; same_core = h.same_core; sent_is = h.sent_is };
  output_is = no_bytes (state_at c flips 0).output h.sent_is;
  states = record { states = λ i other low. absurd (omega arith); next_is = omega arith };
  order = omega arith;
  goes = refl;
})

state_by : (s : State) (event : Event) (core : Core) → (goes_on event ≡ false → core ≡ s.core) → go_on (step_by s.output event core) s ≡ record { core = core; output = sent s.output event }
unfolding step_by go_on
state_by s Went core keeps = refl
state_by s (Out byte) core keeps = refl
state_by s (Halted value) core keeps = ap (λ (x : Core). record { core = x; output = s.output }) (sym (keeps refl))
state_by s Detected core keeps = ap (λ (x : Core). record { core = x; output = s.output }) (sym (keeps refl))
state_by s (Trapped kind) core keeps = ap (λ (x : Core). record { core = x; output = s.output }) (sym (keeps refl))

stepped : (c : CaseData) (s : State) → go_on (step c s) s ≡ record { core = (turn c s.core).core; output = sent s.output (turn c s.core).event }
unfolding step
stepped c s = state_by s (turn c s.core).event (turn c s.core).core (turn_stays c s.core)

flip_parts : (flips : Option Site) (n : ℕ) (s : State) → with_flip flips n s ≡ record { core = flipped_core flips n s.core; output = s.output }
unfolding flipped
flip_parts None n s = refl
flip_parts (Some site) n s = by (n == site.cycle)
  where
    by : (b : Bool) → (if b then flipped s site.cell site.bit else s) ≡ record { core = (if b then flip s.core site.cell site.bit else s.core); output = s.output }
    by true = refl
    by false = refl

-- the state after one instruction more
pub next_parts : (c : CaseData) (flips : Option Site) (n : ℕ) → state_at c flips (n + 1) ≡ record {
  core = flipped_core flips (n + 1) (turn c (state_at c flips n).core).core;
  output = sent (state_at c flips n).output (event_at c flips n);
}
next_parts c flips n = state_next c flips n ∙ ap (with_flip flips (n + 1)) (stepped c (state_at c flips n)) ∙ flip_parts flips (n + 1) _

-- the machine made a step
pub record IsStepped (m : MachineData) (event : Event) (m' : MachineData) : Type 0 where
  pub event_is : event ≡ (turn m.case m.core).event
  pub core_is : m'.core ≡ (turn m.case m.core).core
  pub case_is : m'.case ≡ m.case

module _ (c : CaseData) (flips : Option Site) (spacing place next : ℕ) (kept : List KeptData) (output : List ℕ) (m m' : MachineData) (event : Event)
    (h : Passing c flips spacing place next kept output m) (made : IsStepped m event m') where
  told : event ≡ event_at c flips place
  told = made.event_is ∙ ap (λ (x : CaseData). (turn x m.core).event) h.here.same_case ∙ ap (λ (x : Core). (turn c x).event) h.here.same_core

  held : m'.core ≡ (turn c (state_at c flips place).core).core
  held = made.core_is ∙ ap (λ (x : CaseData). (turn x m.core).core) h.here.same_case ∙ ap (λ (x : Core). (turn c x).core) h.here.same_core

  pub pass_more : (more : List ℕ) (m'' : MachineData) → goes_on event ≡ true → place < next → more ≡ sent output event → m''.case ≡ m'.case → m''.core ≡ flipped_core flips (place + 1) m'.core
      → Passing c flips spacing (place + 1) next kept more m''
  pass_more more m'' on low sends same core =
      let parts = next_parts c flips place in
      let out : more ≡ (state_at c flips (place + 1)).output =
      sends ∙ ap (λ (x : List ℕ). sent x event) h.output_is ∙ ap (λ (x : Event). sent (state_at c flips place).output x) told ∙ ap (λ (x : State). x.output) (sym parts) in
      record {
        here = record {
          same_case = same ∙ made.case_is ∙ h.here.same_case;
          same_core = core ∙ ap (λ (x : Core). flipped_core flips (place + 1) x) held ∙ ap (λ (x : State). x.core) (sym parts);
          sent_is = ap (λ (x : List ℕ). length x) out;
        };
        output_is = out;
        states = h.states;
        order = omega arith;
        goes = let off : ends_at c flips place ≡ false = ap (λ (x : Event). not (goes_on x)) (sym told) ∙ ap not on in first_no (ends_at c flips) 0 place place (omega arith) h.goes off;
      }

  pub pass_ends : goes_on event ≡ false → place < c.limit → IsRunEnd c flips place event output
  unfolding last_of
  pass_ends off low =
      let is : ends_at c flips place ≡ true = ap (λ (x : Event). not (goes_on x)) (sym told) ∙ ap not off in
      let found = first_stays (ends_at c flips) 0 (place + 1) c.limit place (omega arith) (first_yes (ends_at c flips) 0 place place (omega arith) h.goes is) in
      record {
        last_is = sym (ap (λ (o : Option ℕ). unwrap_or o c.limit) found);
        end_is = λ early. told;
        output_is = h.output_is;
        in_limit = omega arith;
      }

pub pass_over : (c : CaseData) (flips : Option Site) (spacing place next last : ℕ) (kept : List KeptData) (output : List ℕ) (m : MachineData) → Passing c flips spacing place next kept output m → place ≡ last → last ≡ c.limit → IsRunEnd c flips last Went output
unfolding last_of
pass_over c flips spacing place next last kept output m h there all =
    let goes = h.goes in
    let none : place_from (ends_at c flips) 0 c.limit ≡ None = rw (there ∙ all) at goes in
    let is = h.output_is in
    record {
      last_is = all ∙ sym (ap (λ (o : Option ℕ). unwrap_or o c.limit) none);
      end_is = λ early. absurd (omega arith);
      output_is = rw there at is;
      in_limit = omega arith;
    }

-- one state at least is kept
pub kept_some : (c : CaseData) (flips : Option Site) (spacing next : ℕ) (kept : List KeptData) → IsKeptTo c flips spacing kept next → 0 < next → 1 ≤ length kept
kept_some c flips spacing next kept h some = by (length kept) refl
  where
    by : (n : ℕ) → length kept ≡ n → 1 ≤ length kept
    by zero e = absurd (let is = h.next_is in let none : length kept * spacing ≡ 0 = rw e (omega arith) in omega arith)
    by (suc n) e = omega arith

-- the state was kept, if it was due
pub pass_kept : (c : CaseData) (flips : Option Site) (spacing place next next' : ℕ) (kept kept' : List KeptData) (output : List ℕ) (m : MachineData) → Passing c flips spacing place next kept output m → place < next' → IsKeptTo c flips spacing kept' next'
    → Passing c flips spacing place next' kept' output m
pass_kept c flips spacing place next next' kept kept' output m h low states = record { here = h.here; output_is = h.output_is; states = states; order = omega arith; goes = h.goes }

-- the machine of a case before its first instruction, with the flip if it is due
pub here_first : (c : CaseData) (flips : Option Site) (m m' : MachineData) → m ≡ record { case = c; core = reset c; taken = 0 } → m'.case ≡ m.case → m'.core ≡ flipped_core flips 0 m.core → IsHere c flips 0 m' 0
unfolding start
here_first c flips m m' e same core =
    let parts : state_at c flips 0 ≡ record { core = flipped_core flips 0 (start c).core; output = (start c).output } = state_first c flips ∙ flip_parts flips 0 (start c) in
    record {
      same_case = same ∙ ap (λ (x : MachineData). x.case) e;
      same_core = core ∙ ap (λ (x : MachineData). flipped_core flips 0 x.core) e ∙ ap (λ (s : State). s.core) (sym parts);
      sent_is = ap (λ (s : State). length s.output) (sym parts);
    }
