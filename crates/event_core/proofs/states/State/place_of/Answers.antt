use Rattle.std.proofs.Common.{◌≡◌, true, refl, ap, sym, ◌∙◌, arith}
use Rattle.event_core.specs.EventCore.{times_held, times_in, holds_job}
use Rattle.event_core.specs.declared.states.Place.TheVariants.{Nowhere, Queue, Hand, Filed, Kept}
use Rattle.event_core.specs.State.{inside_core}
use Rattle.event_core.proofs.At.{is_only, stands, stands_not}
use Rattle.event_core.proofs.states.State.place_of.Goals as goal

pub returns-then-contains : goal.returns-then-contains
returns-then-contains c =
    is_only c.self.inside.jobs (inside_core c.self.inside) c.args.self.now c.args.job Queue c.self.invariant.placed c.self.view_is
    (stands c.self.inside.queue.items c.deref.result.now c.args.job c.contains.result c.deref.ensures.value c.contains.ensures.value c.if-contains.true)

pub returns-in-Some : goal.returns-in-Some
returns-in-Some c =
    let held : holds_job c.deref-2.result.now c.in-Some.worker c.args.job ≡ true = c.in-Some.ensures.some in
    is_only c.self.inside.jobs (inside_core c.self.inside) c.args.self.now c.args.job (Hand c.in-Some.worker) c.self.invariant.placed c.self.view_is
    (ap (λ hands. holds_job hands c.in-Some.worker c.args.job) (sym c.deref-2.ensures.value) ∙ held)

pub returns-then-contains-2 : goal.returns-then-contains-2
returns-then-contains-2 c =
    is_only c.self.inside.jobs (inside_core c.self.inside) c.args.self.now c.args.job Filed c.self.invariant.placed c.self.view_is
    (stands c.self.inside.filed.items c.deref-3.result.now c.args.job c.contains-2.result c.deref-3.ensures.value c.contains-2.ensures.value c.if-contains-2.true)

pub returns-then-contains-3 : goal.returns-then-contains-3
returns-then-contains-3 c =
    is_only c.self.inside.jobs (inside_core c.self.inside) c.args.self.now c.args.job Kept c.self.invariant.placed c.self.view_is
    (stands c.self.inside.kept.items c.deref-4.result.now c.args.job c.contains-3.result c.deref-4.ensures.value c.contains-3.ensures.value c.if-contains-3.true)

pub returns : goal.returns
returns c =
    let no_queue = stands_not c.self.inside.queue.items c.deref.result.now c.args.job c.contains.result c.deref.ensures.value c.contains.ensures.value c.if-contains.false in
    let no_hand : times_held c.args.job c.self.inside.hands.items ≡ 0 = ap (λ hands. times_held c.args.job hands) (sym c.deref-2.ensures.value) ∙ c.in_default.ensures.none refl in
    let not_filed = stands_not c.self.inside.filed.items c.deref-3.result.now c.args.job c.contains-2.result c.deref-3.ensures.value c.contains-2.ensures.value c.if-contains-2.false in
    let not_kept = stands_not c.self.inside.kept.items c.deref-4.result.now c.args.job c.contains-3.result c.deref-4.ensures.value c.contains-3.ensures.value c.if-contains-3.false in
    let nowhere : times_in (inside_core c.self.inside) c.args.job ≡ 0 = omega (arith, no_queue, no_hand, not_filed, not_kept) in
    is_only c.self.inside.jobs (inside_core c.self.inside) c.args.self.now c.args.job Nowhere c.self.invariant.placed c.self.view_is nowhere
