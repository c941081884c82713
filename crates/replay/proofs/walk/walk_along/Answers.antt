use Rattle.std.proofs.Common.{◌≡◌, ◌-◌, ◌<◌, ap, ◌∙◌, arith, rules, true, false, refl}
use Rattle.fs_model.specs.Case.{CaseData}
use Rattle.fs_model.specs.Event.{goes_on}
use Rattle.fs_model.specs.Run.{after}
use Rattle.timeline.specs.Places.{from_flip}
use Rattle.replay.proofs.Stepped.{IsStep}
use Rattle.replay.proofs.Walked.{both_first, both_on, looked, walked, walked_all}
use Rattle.replay.proofs.walk.walk_along.Goals as goal

pub loop-taken-init : goal.loop-taken-init
loop-taken-init c =
    both_first c.args.case.now c.args.site.now 0 _ _ c.none-differences.result refl
    (c.stand_at_flip.ensures.case ∙ c.requires.machine) (c.stand_before.ensures.case ∙ c.requires.golden)
    (c.stand_at_flip.ensures.core ∙ ap (λ (x : CaseData). (from_flip x c.args.site.now).core) c.requires.machine)
    (c.stand_before.ensures.core ∙ ap (λ (x : CaseData). (after x c.args.site.now.cycle).core) c.requires.golden)
    c.none-differences.ensures

pub returns-then-not-goes_on-clause-walk : goal.returns-then-not-goes_on-clause-walk
returns-then-not-goes_on-clause-walk c =
    let case = c.args.case.now in
    let site = c.args.site.now in
    let old = c.loop-taken.invariant in
    let off : goes_on c.step-event.result ≡ false = search rules in
    let made : IsStep c.loop-taken.machine c.step-event.result c.step-event.new.self = record { event_is = c.step-event.ensures.event; core_is = c.step-event.ensures.core; case_is = c.step-event.ensures.case } in
    let found = looked case site c.loop-taken.taken c.loop-taken.machine c.loop-taken.golden c.loop-taken.differences c.with-differences.result c.loop-taken.sent_same old
    c.with-differences.ensures.pc c.with-differences.ensures.registers c.with-differences.ensures.output in
    let low : c.loop-taken.taken < case.limit - site.cycle = omega (arith, c.limit.ensures) in
    walked case site c.loop-taken.taken c.loop-taken.machine c.step-event.new.self c.loop-taken.golden c.loop-taken.differences c.with-differences.result c.loop-taken.sent_same c.step-event.result
    old made off low found

pub loop-taken-preserved : goal.loop-taken-preserved
loop-taken-preserved c =
    let case = c.args.case.now in
    let site = c.args.site.now in
    let old = c.loop-taken.invariant in
    let on : goes_on c.step-event.result ≡ true = search rules in
    let made : IsStep c.loop-taken.machine c.step-event.result c.step-event.new.self = record { event_is = c.step-event.ensures.event; core_is = c.step-event.ensures.core; case_is = c.step-event.ensures.case } in
    let other : IsStep c.loop-taken.golden c.step.result c.step.new.self = record { event_is = c.step.ensures.event; core_is = c.step.ensures.core; case_is = c.step.ensures.case } in
    let found = looked case site c.loop-taken.taken c.loop-taken.machine c.loop-taken.golden c.loop-taken.differences c.with-differences.result c.loop-taken.sent_same old
    c.with-differences.ensures.pc c.with-differences.ensures.registers c.with-differences.ensures.output in
    let next = both_on case site c.loop-taken.taken c.loop-taken.machine c.loop-taken.golden c.step-event.new.self c.step.new.self c.loop-taken.differences c.with-differences.result c.loop-taken.sent_same
    c.step-event.result c.step.result old found c.with-differences.ensures.output made other on in
    rw (c.both-sent_same.ensures, c.send_same.ensures) next

pub returns-clause-walk : goal.returns-clause-walk
returns-clause-walk c =
    let most : c.limit.result - c.args.site.now.cycle ≡ c.args.case.now.limit - c.args.site.now.cycle = ap (λ n. n - c.args.site.now.cycle) c.limit.ensures in
    let all : c.loop-taken.taken ≡ c.limit.result - c.args.site.now.cycle = omega arith in
    let walk = walked_all c.args.case.now c.args.site.now c.loop-taken.taken c.loop-taken.machine c.loop-taken.golden c.loop-taken.differences c.loop-taken.sent_same c.loop-taken.invariant (all ∙ most) in
    rw all at walk
