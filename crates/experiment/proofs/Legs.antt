-- A run that goes on leg by leg, and is compared with the golden run after each.
use Rattle.std.proofs.Common.{◌≡◌, ℕ, ◌+◌, ◌-◌, ◌<◌, ◌≤◌, ◌^◌, ◌&&◌, Bool, true, false, List, length, refl, sym, ◌∙◌, arith}
use Rattle.std.specs.Prelude.{take}
use Rattle.fs_model.specs.declared.outcomes.Outcome.{Outcome}
use Rattle.fs_model.specs.declared.outcomes.Outcome.TheVariants.{NoEffect}
use Rattle.fs_model.specs.declared.events.Event.{Event}
use Rattle.fs_model.specs.Event.{goes_on}
use Rattle.fs_model.specs.Run.{State, Halt, Ended, after, ending}
use Rattle.rv_machine.specs.Machines.{MachineData}
use Rattle.outcome_class.specs.Seen.{WatchData, watching, going}
use Rattle.snapshot_store.specs.Stored.{is_kept}
use Rattle.experiment.specs.declared.reference.Reference.{Reference}
use Rattle.experiment.specs.Steps.{begun, steps_of}
use Rattle.experiment.specs.Jobs.{same_state, rejoins, first_from, steps_until}
use Rattle.experiment.specs.UnderWay.{Follows, HasEnded, IsShortLeg, IsUnderWay}
use Rattle.experiment.proofs.Follows.{Ran, Sees, Tells, first, next, of_case, at_place, stops, lasts}
use Rattle.experiment.proofs.Halts.{steps_is}
use Rattle.experiment.proofs.Injected.{in_limit}
use Rattle.experiment.proofs.Rejoining.{first_is, same_rest, no_effect, golden_low}
use Rattle.experiment.proofs.Until.{none_first, none_on_leg, looked, stands, none_more, told_until}

-- before its first step
pub begins : (r : Reference) (cycle sent : ℕ) (m : MachineData) (w : WatchData) → m.taken ≤ 2 ^ 64 - 1 → m.case ≡ r.case.now → cycle < length r.golden.now.touches
    → w ≡ watching r.golden.now.exit r.golden.now.output (going (take sent r.golden.now.output)) → IsUnderWay r cycle m.taken (begun m.core r.golden.now.output sent) cycle m w
begins r cycle sent m w few same low watch =
    let c = r.case.now in
    let g = r.golden.now in
    let s = begun m.core g.output sent in
    let none : 0 ≡ cycle - cycle = omega arith in
    record {
      order = omega arith;
      within = in_limit c g cycle c.limit r.golden_is refl low;
      follows = at_place c s g.exit g.output m.taken (c.limit - cycle) 0 (cycle - cycle) (c.limit - cycle) (c.limit - cycle) m w none refl
          (of_case c m.case s g.exit g.output m.taken (c.limit - cycle) (c.limit - cycle) 0 (c.limit - cycle) m w same refl (first g.exit g.output sent (c.limit - cycle) m w few watch));
      none = none_first c r.snaps.now.spacing r.snaps.now.count cycle (cycle - cycle) s (sym none);
    }

-- it ends on a leg
pub leg_ends : (r : Reference) (cycle before at most n : ℕ) (s : State) (m m' : MachineData) (w w' : WatchData) (event : Event) (o : Outcome) → 1 ≤ r.snaps.now.spacing → most ≤ r.case.now.limit - at
    → IsShortLeg r.snaps.now.spacing r.snaps.now.count at most → Ran most m m' event n → goes_on event ≡ false → Sees event w w' → Tells w' o → IsUnderWay r cycle before s at m w → HasEnded r cycle before s o m'
leg_ends r cycle before at most n s m m' w w' event o some few short ran off see tells h =
    let c = r.case.now in
    let g = r.golden.now in
    let k = r.snaps.now.spacing in
    let count = r.snaps.now.count in
    let order = h.order in
    let steps : at - cycle + n ≡ at + n - cycle = omega (arith, order) in
    let none = none_on_leg c k count cycle at most n s some order short ran.bound h.none in
    let told = stops c s g.exit g.output before (c.limit - cycle) (at - cycle) (c.limit - at) most n m m' w w' event o h.follows few ran off see tells in
    record {
      outcome = told.outcome;
      taken = told_until c k count cycle g.exit before (at - cycle + n) g.output s m' o (λ i low. none i (omega (arith, steps, low))) told;
      case = told.case;
    }

-- a run that is in the golden run's state has no effect
ends_early : (r : Reference) (cycle before at : ℕ) (s : State) (m : MachineData) (w : WatchData) → cycle ≤ at → Follows r.case.now s r.golden.now.exit r.golden.now.output before (r.case.now.limit - cycle) (at - cycle) (r.case.now.limit - at) m w
    → ((i : ℕ) → i < at - cycle → rejoins r.case.now r.snaps.now.spacing r.snaps.now.count cycle s i ≡ false) → rejoins r.case.now r.snaps.now.spacing r.snaps.now.count cycle s (at - cycle) ≡ true
    → HasEnded r cycle before s NoEffect m
unfolding steps_until
ends_early r cycle before at s m w order h none here =
    let c = r.case.now in
    let g = r.golden.now in
    let k = r.snaps.now.spacing in
    let n = r.snaps.now.count in
    let count = r.count_is in
    let there = stands c k n cycle (at - cycle) s here in
    let low = golden_low k n (cycle + (at - cycle)) there.kept in
    let left : c.limit - at ≡ c.limit - (cycle + (at - cycle)) = omega (arith, order) in
    let end : ending c (c.limit - cycle) s ≡ Ended (Halt g.exit) (length g.touches - cycle) g.output =
    same_rest c g.exit (length g.touches) cycle (at - cycle) (c.limit - at) g.output s (record { core = m.core; output = h.output }) r.golden_is.ends (omega (arith, low, count)) left h.rest (sym h.stands ∙ there.same) in
    let steps = steps_is (c.limit - cycle) (ending c (c.limit - cycle) s) (Halt g.exit) (length g.touches - cycle) g.output end in
    let first : first_from (rejoins c k n cycle s) 0 (steps_of (c.limit - cycle) (ending c (c.limit - cycle) s)) ≡ at - cycle =
    first_is (rejoins c k n cycle s) (steps_of (c.limit - cycle) (ending c (c.limit - cycle) s)) 0 (at - cycle) (omega arith) (omega (arith, steps, low, count)) (λ i a b. none i b) here in
    record {
      outcome = no_effect g.exit (length g.touches) cycle g.output (ending c (c.limit - cycle) s) end;
      taken = rw first h.taken;
      case = h.same_case;
    }

-- it goes on after a leg, and is in the golden run's state there or not
pub leg_looks : (r : Reference) (cycle before at most n : ℕ) (s : State) (m m' : MachineData) (w w' : WatchData) (event : Event) (x : Bool) → 1 ≤ r.snaps.now.spacing → 1 ≤ n → most ≤ r.case.now.limit - at
    → IsShortLeg r.snaps.now.spacing r.snaps.now.count at most → Ran most m m' event n → goes_on event ≡ true → Sees event w w'
    → ((exit : ℕ) (output : List ℕ) → w' ≡ watching exit r.golden.now.output (going output)
    → x ≡ (is_kept r.snaps.now.spacing r.snaps.now.count (at + n) && same_state (record { core = m'.core; output = output }) (after r.case.now (at + n))))
    → IsUnderWay r cycle before s at m w → (x ≡ true → HasEnded r cycle before s NoEffect m') × (x ≡ false → IsUnderWay r cycle before s (at + n) m' w')
leg_looks r cycle before at most n s m m' w w' event x some any few short ran on see look h =
    let c = r.case.now in
    let g = r.golden.now in
    let k = r.snaps.now.spacing in
    let count = r.snaps.now.count in
    let order = h.order in
    let within = h.within in
    let bound = ran.bound in
    let steps : at - cycle + n ≡ at + n - cycle = omega (arith, order) in
    let left : c.limit - at - n ≡ c.limit - (at + n) = omega arith in
    let follows = at_place c s g.exit g.output before (c.limit - cycle) (at - cycle + n) (at + n - cycle) (c.limit - at - n) (c.limit - (at + n)) m' w' steps left
    (next c s g.exit g.output before (c.limit - cycle) (at - cycle) (c.limit - at) most n m m' w w' event h.follows few ran on see) in
    let none = none_on_leg c k count cycle at most n s some order short bound h.none in
    let here : x ≡ rejoins c k count cycle s (at + n - cycle) =
    looked c k count cycle (at + n - cycle) (at + n) g.exit before (c.limit - cycle) (c.limit - (at + n)) g.output s m' w' x (omega (arith, order)) (omega (arith, order, any)) follows look in (
      λ yes. ends_early r cycle before (at + n) s m' w' (omega (arith, order)) follows none (sym here ∙ yes),
      λ no. record {
        order = omega (arith, order);
        within = omega (arith, few, within, bound);
        follows = follows;
        none = none_more c k count cycle (at + n - cycle) s none (sym here ∙ no);
      },
    )

-- it is at the limit
pub ends_last : (r : Reference) (cycle before at : ℕ) (s : State) (m : MachineData) (w : WatchData) (o : Outcome) → r.case.now.limit ≤ at → Tells w o → IsUnderWay r cycle before s at m w → HasEnded r cycle before s o m
ends_last r cycle before at s m w o over tells h =
    let c = r.case.now in
    let g = r.golden.now in
    let within = h.within in
    let none : c.limit - at ≡ 0 = omega (arith, over) in
    let whole : at - cycle ≡ c.limit - cycle = omega (arith, over, within) in
    let told = lasts c s g.exit g.output before (c.limit - cycle) (at - cycle) (c.limit - at) m w o h.follows none whole tells in
    record {
      outcome = told.outcome;
      taken = told_until c r.snaps.now.spacing r.snaps.now.count cycle g.exit before (at - cycle) g.output s m o (λ i low. h.none i (omega (arith, low))) told;
      case = told.case;
    }
