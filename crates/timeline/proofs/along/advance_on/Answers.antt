use Rattle.std.proofs.Common.{◌≡◌, ◌+◌, ◌-◌, arith}
use Rattle.snapshot_store.proofs.AlongLegs.{sent_one}
use Rattle.timeline.proofs.OnLegs.{on_leg, on_few}
use Rattle.timeline.proofs.along.advance_on.Goals as goal

pub loop-left-init : goal.loop-left-init
loop-left-init c =
    let all : c.args.to - (c.args.to - c.args.from) ≡ c.args.from = omega arith in
    record { few = omega arith; stands = rw all c.requires.at }

pub overflow_add-sent : goal.overflow_add-sent
overflow_add-sent c =
    let few = on_few c.args.machine.now.case c.args.site (c.args.to - c.loop-left.left - c.args.site.cycle) in
    let one = sent_one c.run-event.result.0 in
    omega (arith, few, one, c.sent_by-sent.ensures, c.loop-left.invariant.stands.sent_is, c.ranges.to.fits, c.requires.flipped, c.loop-left.invariant.few)

pub loop-left-preserved : goal.loop-left-preserved
loop-left-preserved c =
    let few = c.loop-left.invariant.few in
    let bound = c.run-event.ensures.bound in
    let low = c.requires.flipped in
    let more : c.args.to - c.loop-left.left - c.args.site.cycle + c.run-event.result.1 ≡ c.args.to - (c.loop-left.left - c.run-event.result.1) - c.args.site.cycle = omega (arith, few, bound, low) in
    let stands = on_leg c.args.machine.now.case c.args.site (c.args.to - c.loop-left.left - c.args.site.cycle) c.loop-left.sent c.loop-left.left c.run-event.result.1 c.loop-left.machine c.run-event.new.self c.run-event.result.0 c.loop-left.invariant.stands
    c.run-event.ensures.event c.run-event.ensures.steps c.run-event.ensures.core c.run-event.ensures.case in
    record {
      few = omega (arith, few);
      stands = rw (c.sent_by-sent.ensures, ← more) stands;
    }

pub returns : goal.returns
returns c =
    let none : c.args.to - c.loop-left.left ≡ c.args.to = omega arith in
    let stands = c.loop-left.invariant.stands in
    rw none at stands
