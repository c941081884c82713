use Rattle.std.proofs.Common.{◌≡◌, ◌-◌, ◌≤◌, ◌^◌, sym, refl, ap, ◌∙◌, arith}
use Rattle.fs_model.specs.declared.sites.Site.{Site}
use Rattle.fs_model.specs.Outcome.{outcome}
use Rattle.outcome_class.specs.Seen.{WatchData}
use Rattle.experiment.specs.Steps.{begun}
use Rattle.experiment.proofs.Legs.{begins, ends_last}
use Rattle.experiment.proofs.Keyed.{taken_here, taken_whole, own_here, meets, none_known, more_known, known_as}
use Rattle.experiment.proofs.meeting.run_until_known.Goals as goal

pub loop-at-init : goal.loop-at-init
loop-at-init g c =
    let r = c.args.reference.now in
    let few : c.args.machine.now.taken ≤ 2 ^ 64 - 1 = omega arith in
    let h = begins r c.args.shortcuts.now.own.cycle c.args.sent c.args.machine.now c.watch_after-watch.result few c.requires.machine c.requires.cycle c.watch_after-watch.ensures in
    record {
      under_way = rw c.cycle-cycle.ensures h;
      known = none_known r.case.now r.golden.now r.snaps.now c.args.shortcuts.now.keys (outcome r.case.now c.args.shortcuts.now.own) c.requires.keys;
      case = refl;
      own = refl;
    }

pub leg_length-most-requires-clause-order : goal.leg_length-most-requires-clause-order
leg_length-most-requires-clause-order g c = let order = c.loop-at.invariant.under_way.order in omega (arith, order, c.cycle-cycle.ensures)

pub leg_length-most-requires-clause-below : goal.leg_length-most-requires-clause-below
leg_length-most-requires-clause-below g c = omega (arith, c.loop-at-test.true, c.limit-limit.ensures)

pub leg-requires-clause-machine : goal.leg-requires-clause-machine
leg-requires-clause-machine g c = c.loop-at.invariant.under_way.follows.same_case

pub leg-requires-clause-watch : goal.leg-requires-clause-watch
leg-requires-clause-watch g c = ap (λ (w : WatchData). w.golden) c.loop-at.invariant.under_way.follows.watch

pub returns-in-Some : goal.returns-in-Some
returns-in-Some g c =
    let r = c.args.reference.now in
    let own = c.args.shortcuts.now.own in
    let s = begun c.args.machine.now.core r.golden.now.output c.args.sent in
    let i = c.loop-at.invariant in
    let few : c.args.machine.now.taken ≤ 2 ^ 64 - 1 = omega arith in
    let told = c.in-Some.ensures.run own.cycle c.args.machine.now.taken s i.under_way in
    let is : c.in-Some.found ≡ outcome r.case.now own = told.outcome 0 ∙ sym (c.requires.own 0) in
    record {
      outcome = is;
      taken = taken_whole r own.cycle c.args.machine.now.taken s c.in-Some.found c.leg.new.machine few c.requires.cycle told;
      case = told.case ∙ sym c.requires.machine;
      same = (i.case, i.own);
      known = known_as r.case.now r.golden.now r.snaps.now c.loop-at.shortcuts.keys (outcome r.case.now own) c.in-Some.found is i.known;
    }

pub outcome_here-requires-clause-case : goal.outcome_here-requires-clause-case
outcome_here-requires-clause-case g c = c.loop-at.invariant.case ∙ c.requires.case

pub outcome_here-requires-clause-machine : goal.outcome_here-requires-clause-machine
outcome_here-requires-clause-machine g c =
    let r = c.args.reference.now in
    let under_way = c.in_default.ensures.run c.args.shortcuts.now.own.cycle c.args.machine.now.taken (begun c.args.machine.now.core r.golden.now.output c.args.sent) c.loop-at.invariant.under_way in
    under_way.follows.same_case

pub outcome_here-requires-clause-order : goal.outcome_here-requires-clause-order
outcome_here-requires-clause-order g c =
    let i = c.loop-at.invariant in
    let order = i.under_way.order in
    let same : c.loop-at.shortcuts.own.cycle ≡ c.args.shortcuts.now.own.cycle = ap (λ (x : Site). x.cycle) i.own in
    omega (arith, order, same, c.in_default.ensures.further)

pub outcome_here-requires-clause-own : goal.outcome_here-requires-clause-own
outcome_here-requires-clause-own g c =
    let r = c.args.reference.now in
    let own = c.args.shortcuts.now.own in
    let s = begun c.args.machine.now.core r.golden.now.output c.args.sent in
    let i = c.loop-at.invariant in
    let under_way = c.in_default.ensures.run own.cycle c.args.machine.now.taken s i.under_way in
    rw i.own (own_here r own.cycle c.args.machine.now.taken c.leg.new.at s c.leg.new.machine c.leg.new.watch (outcome r.case.now own) c.requires.own under_way)

pub returns-in-Some-outcome_here : goal.returns-in-Some-outcome_here
returns-in-Some-outcome_here g c =
    let r = c.args.reference.now in
    let own = c.args.shortcuts.now.own in
    let s = begun c.args.machine.now.core r.golden.now.output c.args.sent in
    let i = c.loop-at.invariant in
    let e = c.outcome_here.ensures in
    let few : c.args.machine.now.taken ≤ 2 ^ 64 - 1 = omega arith in
    let under_way = c.in_default.ensures.run own.cycle c.args.machine.now.taken s i.under_way in
    let order = i.under_way.order in
    let own_known = own_here r own.cycle c.args.machine.now.taken c.leg.new.at s c.leg.new.machine c.leg.new.watch (outcome r.case.now own) c.requires.own under_way in
    let is : c.in-Some-outcome_here.known ≡ outcome r.case.now own =
    meets r own.cycle c.args.machine.now.taken c.leg.new.at s c.leg.new.machine c.leg.new.watch c.in-Some-outcome_here.known c.in-Some-outcome_here.ensures.known under_way 0 ∙ sym (c.requires.own 0) in
    record {
      outcome = is;
      taken = taken_here r own.cycle c.args.machine.now.taken c.leg.new.at s c.leg.new.machine c.leg.new.watch few (omega (arith, order, c.in_default.ensures.further)) under_way;
      case = under_way.follows.same_case ∙ sym c.requires.machine;
      same = (e.same.0 ∙ i.case, e.same.1 ∙ i.own);
      known = known_as r.case.now r.golden.now r.snaps.now c.outcome_here.new.self.keys (outcome r.case.now own) c.in-Some-outcome_here.known is
          (more_known r.case.now r.golden.now r.snaps.now c.loop-at.shortcuts.keys c.outcome_here.new.self.keys _ (outcome r.case.now own) r.snaps_are own_known e.noted i.known);
    }

pub loop-at-preserved : goal.loop-at-preserved
loop-at-preserved g c =
    let r = c.args.reference.now in
    let own = c.args.shortcuts.now.own in
    let s = begun c.args.machine.now.core r.golden.now.output c.args.sent in
    let i = c.loop-at.invariant in
    let e = c.outcome_here.ensures in
    let under_way = c.in_default.ensures.run own.cycle c.args.machine.now.taken s i.under_way in
    let own_known = own_here r own.cycle c.args.machine.now.taken c.leg.new.at s c.leg.new.machine c.leg.new.watch (outcome r.case.now own) c.requires.own under_way in
    record {
      under_way = under_way;
      known = more_known r.case.now r.golden.now r.snaps.now c.loop-at.shortcuts.keys c.outcome_here.new.self.keys _ (outcome r.case.now own) r.snaps_are own_known e.noted i.known;
      case = e.same.0 ∙ i.case;
      own = e.same.1 ∙ i.own;
    }

pub returns : goal.returns
returns g c =
    let r = c.args.reference.now in
    let own = c.args.shortcuts.now.own in
    let s = begun c.args.machine.now.core r.golden.now.output c.args.sent in
    let i = c.loop-at.invariant in
    let few : c.args.machine.now.taken ≤ 2 ^ 64 - 1 = omega arith in
    let over : r.case.now.limit ≤ c.loop-at.at = omega (arith, c.loop-at-test.false, c.limit-limit.ensures) in
    let told = ends_last r own.cycle c.args.machine.now.taken c.loop-at.at s c.loop-at.machine c.loop-at.watch c.outcome.result over c.outcome.ensures i.under_way in
    let is : c.outcome.result ≡ outcome r.case.now own = told.outcome 0 ∙ sym (c.requires.own 0) in
    record {
      outcome = is;
      taken = taken_whole r own.cycle c.args.machine.now.taken s c.outcome.result c.loop-at.machine few c.requires.cycle told;
      case = told.case ∙ sym c.requires.machine;
      same = (i.case, i.own);
      known = known_as r.case.now r.golden.now r.snaps.now c.loop-at.shortcuts.keys (outcome r.case.now own) c.outcome.result is i.known;
    }
