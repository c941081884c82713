use Rattle.std.proofs.Common.{◌≡◌, ◌∙◌, length, arith, rules, refl, false, true, sym}
use Rattle.fs_model.specs.Event.{goes_on}
use Rattle.timeline.specs.Places.{IsHere}
use Rattle.timeline.proofs.Passing.{IsStepped, pass_first, pass_kept, pass_more, pass_ends, pass_over, kept_some}
use Rattle.timeline.proofs.first_pass.first_pass.Goals as goal

pub loop-place-init : goal.loop-place-init
loop-place-init c = pass_first _ _ _ _ _ _ _ c.new-kept.ensures.items c.new-output.ensures.items refl c.requires.here

pub returns-then-not-goes_on-clause-pass : goal.returns-then-not-goes_on-clause-pass
returns-then-not-goes_on-clause-pass c =
    let case = c.args.case.now in
    let flips = c.args.flip in
    let old = c.loop-place.invariant in
    let len : c.len.result ≡ length c.loop-place.output.items = search rules in
    let here : IsHere case flips c.loop-place.place c.loop-place.machine c.len.result = record { same_case = old.here.same_case; same_core = old.here.same_core; sent_is = len ∙ old.here.sent_is } in
    let states = c.in_ok-next.ensures.states case flips old.states here in
    let kept = pass_kept case flips c.args.spacing c.loop-place.place _ c.in_ok-next.next _ c.keep_at.new.kept.items _ c.loop-place.machine old c.in_ok-next.ensures.order states in
    let made : IsStepped c.loop-place.machine c.step-event.result c.step-event.new.self = record { event_is = c.step-event.ensures.event; core_is = c.step-event.ensures.core; case_is = c.step-event.ensures.case } in
    let off : goes_on c.step-event.result ≡ false = sym c.goes_on.ensures ∙ c.if-not-goes_on.true in
    record {
      some = kept_some case flips c.args.spacing c.in_ok-next.next _ states (let low = c.in_ok-next.ensures.order in omega arith);
      states = states.states;
      ends = pass_ends case flips c.args.spacing c.loop-place.place c.in_ok-next.next _ _ _ _ _ kept made off (omega (arith, c.limit-place-end.ensures));
    }

pub loop-place-preserved : goal.loop-place-preserved
loop-place-preserved c =
    let case = c.args.case.now in
    let flips = c.args.flip in
    let old = c.loop-place.invariant in
    let len : c.len.result ≡ length c.loop-place.output.items = search rules in
    let here : IsHere case flips c.loop-place.place c.loop-place.machine c.len.result = record { same_case = old.here.same_case; same_core = old.here.same_core; sent_is = len ∙ old.here.sent_is } in
    let states = c.in_ok-next.ensures.states case flips old.states here in
    let kept = pass_kept case flips c.args.spacing c.loop-place.place _ c.in_ok-next.next _ c.keep_at.new.kept.items _ c.loop-place.machine old c.in_ok-next.ensures.order states in
    let made : IsStepped c.loop-place.machine c.step-event.result c.step-event.new.self = record { event_is = c.step-event.ensures.event; core_is = c.step-event.ensures.core; case_is = c.step-event.ensures.case } in
    let on : goes_on c.step-event.result ≡ true = sym c.goes_on.ensures ∙ c.if-not-goes_on.false in
    pass_more case flips c.args.spacing c.loop-place.place c.in_ok-next.next _ _ _ _ _ kept made _ _ on c.in_ok-next.ensures.order c.in_ok-push_sent.ensures c.flip_at.ensures.case c.flip_at.ensures.core

pub returns-clause-pass : goal.returns-clause-pass
returns-clause-pass c =
    let old = c.loop-place.invariant in
    record {
      some = kept_some c.args.case.now c.args.flip c.args.spacing c.loop-place.next _ old.states (let some = c.facts.ensures.limit_min in let low = old.order in omega (arith, c.limit-place-end.ensures));
      states = (old.states).states;
      ends = pass_over c.args.case.now c.args.flip c.args.spacing c.loop-place.place c.loop-place.next c.limit.result _ _ c.loop-place.machine old (omega (arith, c.limit.ensures, c.limit-place-end.ensures)) c.limit.ensures;
    }
