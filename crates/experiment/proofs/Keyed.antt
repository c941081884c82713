-- A run that ends also where a table knows its state.
use Rattle.std.proofs.Common.{◌≡◌, ℕ, zero, suc, ◌+◌, ◌-◌, ◌<◌, ◌≤◌, ◌^◌, Bool, true, false, if◌then◌else◌, List, [], ◌∷◌, ◌++◌, length, refl, sym, ◌∙◌, ap, subst, ⊎_elim, arith}
use Rattle.std.specs.Prelude.{All}
use Rattle.std.proofs.lemmas.List.Elements.{All-push, All-same}
use Rattle.fs_model.specs.declared.outcomes.Outcome.{Outcome}
use Rattle.fs_model.specs.Case.{CaseData}
use Rattle.fs_model.specs.Run.{State, Halt, Ending, Ended, Over, ending}
use Rattle.fs_model.specs.Leg.{later}
use Rattle.fs_model.specs.Outcome.{compare}
use Rattle.rv_machine.specs.Machines.{MachineData}
use Rattle.golden_trace.specs.Goldens.{GoldenData}
use Rattle.outcome_class.specs.Seen.{WatchData, sent_of}
use Rattle.snapshot_store.specs.Stored.{SnapsData}
use Rattle.known_states.specs.Known.{AreAlike, KeyData, States, IsKnown, here, stands_for}
use Rattle.known_states.proofs.SameSent.{compare_later, same_sent}
use Rattle.experiment.specs.declared.reference.Reference.{Reference}
use Rattle.experiment.specs.Steps.{steps_of}
use Rattle.experiment.specs.Jobs.{IsNotedHere, RoseWithin, rejoins, first_from, steps_until}
use Rattle.experiment.specs.UnderWay.{Follows, HasEnded, IsUnderWay}
use Rattle.experiment.proofs.Rises.{below_limit, rose_up, until_some}

-- ---- how many steps it takes at most

-- none before passes the test
first_least : (test : ℕ → Bool) (more from j : ℕ) → j ≤ from + more → ((i : ℕ) → from ≤ i → i < j → test i ≡ false) → j ≤ first_from test from more
unfolding first_from
first_least test zero from j le none = omega (arith, le)
first_least test (suc more) from j le none = by (test from) refl (λ off. first_least test more (from + 1) j (omega (arith, le)) (λ i a b. none i (omega (arith, a)) b))
  where
    by : (b : Bool) → test from ≡ b → (test from ≡ false → j ≤ first_from test (from + 1) more) → j ≤ (if b then from else first_from test (from + 1) more)
    by true e rest =
        let not : from < j → ⊥ = λ low. let off : test from ≡ false = none from (omega arith) low in absurd cc in
        omega (arith, not)
    by false e rest = rest e

later_steps : (limit j : ℕ) (e : Ending) → j ≤ limit → j ≤ steps_of limit (later j e)
unfolding later steps_of
later_steps limit j (Ended end n output) le = omega arith
later_steps limit j Over le = le

-- a run that goes on after so many steps, and never stood as the golden one does, takes so many at least
taken_least : (c : CaseData) (k n cycle exit before j left : ℕ) (golden : List ℕ) (s : State) (m : MachineData) (w : WatchData) → j ≤ c.limit - cycle
    → Follows c s exit golden before (c.limit - cycle) j left m w → ((i : ℕ) → i < j → rejoins c k n cycle s i ≡ false) → j ≤ steps_until c k n cycle s
unfolding steps_until
taken_least c k n cycle exit before j left golden s m w few h none =
    let most : j ≤ steps_of (c.limit - cycle) (ending c (c.limit - cycle) s) = rw h.rest (later_steps (c.limit - cycle) j (ending c left (record { core = m.core; output = h.output })) few) in
    first_least (rejoins c k n cycle s) (steps_of (c.limit - cycle) (ending c (c.limit - cycle) s)) 0 j (omega (arith, most)) (λ i a b. none i b)

-- the machine took a step at least, and at most those of the run
pub taken_here : (r : Reference) (cycle before at : ℕ) (s : State) (m : MachineData) (w : WatchData) → before ≤ 2 ^ 64 - 1 → cycle < at → IsUnderWay r cycle before s at m w
    → RoseWithin 1 before (steps_until r.case.now r.snaps.now.spacing r.snaps.now.count cycle s) m.taken
taken_here r cycle before at s m w few further h =
    let c = r.case.now in
    let within = h.within in
    let most : at - cycle ≤ c.limit - cycle = omega (arith, within) in
    let least = taken_least c r.snaps.now.spacing r.snaps.now.count cycle r.golden.now.exit before (at - cycle) (c.limit - at) r.golden.now.output s m w most h.follows (λ i low. h.none i (omega (arith, low))) in
    rose_up 1 before (at - cycle) (steps_until c r.snaps.now.spacing r.snaps.now.count cycle s) m.taken few h.follows.taken (omega (arith, further)) least

pub taken_whole : (r : Reference) (cycle before : ℕ) (s : State) (o : Outcome) (m : MachineData) → before ≤ 2 ^ 64 - 1 → cycle < length r.golden.now.touches → HasEnded r cycle before s o m
    → RoseWithin 1 before (steps_until r.case.now r.snaps.now.spacing r.snaps.now.count cycle s) m.taken
taken_whole r cycle before s o m few low h =
    rose_up 1 before _ _ m.taken few h.taken (until_some r.case.now r.snaps.now.spacing r.snaps.now.count cycle s (below_limit r.case.now r.golden.now cycle r.golden_is low)) (omega arith)

-- ---- what is known where the run is

-- the run from s ends as those from the state here do
same_here : (r : Reference) (cycle before at : ℕ) (s : State) (m : MachineData) (w : WatchData) → IsUnderWay r cycle before s at m w → (n : ℕ) (output : List ℕ) → sent_of r.golden.now.output output ≡ w.sent
    → compare (Ended (Halt r.golden.now.exit) n r.golden.now.output) (ending r.case.now (r.case.now.limit - cycle) s)
    ≡ compare (Ended (Halt r.golden.now.exit) n r.golden.now.output) (ending r.case.now (r.case.now.limit - at) (record { core = m.core; output = output }))
same_here r cycle before at s m w h n output is =
    let c = r.case.now in
    let g = r.golden.now in
    let f = h.follows in
    let sent : w.sent ≡ sent_of g.output f.output = ap (λ (x : WatchData). x.sent) f.watch in
    ap (compare (Ended (Halt g.exit) n g.output)) f.rest
    ∙ compare_later (Ended (Halt g.exit) n g.output) (at - cycle) (ending c (c.limit - at) (record { core = m.core; output = f.output }))
    ∙ same_sent c g.exit n g.output (c.limit - at) m.core f.output output (sym sent ∙ sym is)

-- the outcome of the run's own site is
pub own_here : (r : Reference) (cycle before at : ℕ) (s : State) (m : MachineData) (w : WatchData) (o : Outcome) → ((n : ℕ) → o ≡ compare (Ended (Halt r.golden.now.exit) n r.golden.now.output) (ending r.case.now (r.case.now.limit - cycle) s))
    → IsUnderWay r cycle before s at m w → IsKnown r.case.now r.golden.now (here m at w.sent) o
own_here r cycle before at s m w o own h = record { outcome = λ n output is. own n ∙ same_here r cycle before at s m w h n output is }

-- and what is known here is the outcome of the run
pub meets : (r : Reference) (cycle before at : ℕ) (s : State) (m : MachineData) (w : WatchData) (o : Outcome) → IsKnown r.case.now r.golden.now (here m at w.sent) o → IsUnderWay r cycle before s at m w
    → (n : ℕ) → o ≡ compare (Ended (Halt r.golden.now.exit) n r.golden.now.output) (ending r.case.now (r.case.now.limit - cycle) s)
meets r cycle before at s m w o known h n =
    let f = h.follows in
    let sent : w.sent ≡ sent_of r.golden.now.output f.output = ap (λ (x : WatchData). x.sent) f.watch in
    known.outcome n f.output (sym sent) ∙ sym (same_here r cycle before at s m w h n f.output (sym sent))

-- ---- the keys that it noted

-- what is known of states is known of those that end alike
known_alike : (c : CaseData) (g : GoldenData) (states other : States) (o : Outcome) → AreAlike c other states → IsKnown c g states o → IsKnown c g other o
known_alike c g states other o alike known = record {
  outcome = λ n output is.
      known.outcome n output (is ∙ alike.sent)
      ∙ ap (compare (Ended (Halt g.exit) n g.output)) (ap (λ (t : ℕ). ending c (c.limit - t) (record { core = states.core; output = output })) (sym alike.cycle) ∙ sym (alike.ends (c.limit - other.cycle) output));
}

-- this outcome is known of the states of each key
abbrev pub AllKnown : CaseData → GoldenData → SnapsData → List KeyData → Outcome → Type 0
AllKnown c g snaps keys o = All (λ key. IsKnown c g (stands_for snaps key) o) keys

pub none_known : (c : CaseData) (g : GoldenData) (snaps : SnapsData) (keys : List KeyData) (o : Outcome) → keys ≡ [] → AllKnown c g snaps keys o
none_known c g snaps keys o e = All-same (λ (key : KeyData). IsKnown c g (stands_for snaps key) o) keys [] e (λ k d low. absurd (omega (arith, low)))

pub more_known : (c : CaseData) (g : GoldenData) (snaps : SnapsData) (old new : List KeyData) (states : States) (o : Outcome)
    → snaps.case ≡ c → IsKnown c g states o → IsNotedHere snaps states old new → AllKnown c g snaps old o → AllKnown c g snaps new o
more_known c g snaps old new states o same here noted all =
    ⊎_elim (λ (e : (key : KeyData) × AreAlike snaps.case (stands_for snaps key) states × (new ≡ old ++ key ∷ [])).
    All-same (λ (key : KeyData). IsKnown c g (stands_for snaps key) o) new (old ++ e.0 ∷ []) e.2
    (All-push (λ (key : KeyData). IsKnown c g (stands_for snaps key) o) old e.0 all (known_alike c g states (stands_for snaps e.0) o (subst (λ (x : CaseData). AreAlike x (stands_for snaps e.0) states) same e.1) here)))
    (λ (e : new ≡ old). All-same (λ (key : KeyData). IsKnown c g (stands_for snaps key) o) new old e all)
    noted

-- the run's outcome is that of its keys
pub known_as : (c : CaseData) (g : GoldenData) (snaps : SnapsData) (keys : List KeyData) (o o' : Outcome) → o' ≡ o → AllKnown c g snaps keys o → AllKnown c g snaps keys o'
known_as c g snaps keys o o' e all = subst (λ (x : Outcome). AllKnown c g snaps keys x) (sym e) all
