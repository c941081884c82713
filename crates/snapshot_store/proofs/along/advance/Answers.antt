use Rattle.std.proofs.Common.{◌≡◌, ◌+◌, ◌-◌, arith}
use Rattle.snapshot_store.proofs.AlongLegs.{at_leg, sent_few, sent_one}
use Rattle.snapshot_store.proofs.along.advance.Goals as goal

pub overflow_add-sent : goal.overflow_add-sent
overflow_add-sent c =
    let few = sent_few c.args.machine.now.case (c.args.to - c.loop-left.left) in
    let one = sent_one c.run-event.result.0 in
    omega (arith, few, one, c.sent_by-sent.ensures, c.loop-left.invariant.stands.sent_is, c.ranges.to.fits)

pub loop-left-preserved : goal.loop-left-preserved
loop-left-preserved c =
    let few = c.loop-left.invariant.few in
    let bound = c.run-event.ensures.bound in
    let more : c.args.to - c.loop-left.left + c.run-event.result.1 ≡ c.args.to - (c.loop-left.left - c.run-event.result.1) = omega (arith, few, bound) in
    let stands = at_leg c.args.machine.now.case (c.args.to - c.loop-left.left) c.loop-left.sent c.loop-left.left c.run-event.result.1 c.loop-left.machine c.run-event.new.self c.run-event.result.0 c.loop-left.invariant.stands
    c.run-event.ensures.event c.run-event.ensures.steps c.run-event.ensures.core c.run-event.ensures.case in
    record {
      few = omega (arith, few);
      stands = rw (c.sent_by-sent.ensures, ← more) stands;
      taken = let before = c.loop-left.invariant.taken in omega (arith, before, c.run-event.ensures.taken, c.run-event.ensures.steps, few, bound);
    }
