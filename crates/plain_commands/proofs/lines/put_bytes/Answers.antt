use Rattle.std.proofs.Common.{◌≡◌, ◌+◌, ◌-◌, ◌∙◌, refl, arith, rules}
use Rattle.report.proofs.Buffered.{puts_part}
use Rattle.plain_commands.proofs.Sends.{IsLeg, sends_first, sends_on, digits_first, digits_on, digits_fail}
use Rattle.plain_commands.specs.Sent.{begins}
use Rattle.plain_commands.proofs.lines.put_bytes.Goals as goal

pub loop-left-init : goal.loop-left-init
loop-left-init g c =
    let none : c.args.steps - c.args.steps ≡ 0 = omega arith in
    record {
      few = omega arith;
      stands = sends_first c.args.machine.now _ none;
      faults = refl;
      so_far = λ told. digits_first c.args.machine.now.case c.args.machine.now.core _ _ _ none;
    }

pub loop-left-preserved : goal.loop-left-preserved
loop-left-preserved g c =
    let old = c.loop-left.invariant in
    let run = c.run-event.ensures in
    let leg : IsLeg c.loop-left.machine c.loop-left.left c.run-event.result.0 c.run-event.result.1 c.run-event.new.self =
    record { event_is = run.event; steps_is = run.steps; core_is = run.core; case_is = run.case } in
    let more : c.args.steps - c.loop-left.left + c.run-event.result.1 ≡ c.args.steps - (c.loop-left.left - c.run-event.result.1) = omega (arith, old.few, run.bound) in
    record {
      few = omega (arith, old.few);
      stands = rw c.either-any.ensures (sends_on c.args.machine.now.case (begins c.args.machine.now.core) _ _ _ _ c.loop-left.machine _ c.loop-left.any c.in_ok-some.some c.run-event.result.0 more old.stands leg c.in_ok-some.ensures.sends);
      faults = search rules;
      so_far = λ told. digits_on c.args.machine.now.case (begins c.args.machine.now.core) _ _ _ _ c.loop-left.machine _ c.loop-left.any c.run-event.result.0 _ _ _ _ _ _ more old.stands leg (old.so_far told) (c.in_ok-some.ensures.bytes told);
    }

pub returns-in_err-some-clause-bytes : goal.returns-in_err-some-clause-bytes
returns-in_err-some-clause-bytes g c = λ told.
    let old = c.loop-left.invariant in
    let run = c.run-event.ensures in
    let leg : IsLeg c.loop-left.machine c.loop-left.left c.run-event.result.0 c.run-event.result.1 c.run-event.new.self =
    record { event_is = run.event; steps_is = run.steps; core_is = run.core; case_is = run.case } in
    let more : c.args.steps - c.loop-left.left + c.run-event.result.1 ≡ c.args.steps - (c.loop-left.left - c.run-event.result.1) = omega (arith, old.few, run.bound) in
    puts_part _ _ _ _ _ c.from_residual.result c.from_residual.ensures.0
    (digits_fail c.args.machine.now.case (begins c.args.machine.now.core) _ _ c.args.steps _ _ c.loop-left.machine _ c.loop-left.any c.run-event.result.0 _ _ _ _ _ more (omega arith) old.stands leg (old.so_far told) (c.in_err-some.ensures.bytes told))

pub returns-in_err-some-clause-case : goal.returns-in_err-some-clause-case
returns-in_err-some-clause-case g c = let stands = c.loop-left.invariant.stands in c.run-event.ensures.case ∙ stands.same_case

pub returns : goal.returns
returns g c =
    let old = c.loop-left.invariant in
    let all : c.args.steps - c.loop-left.left ≡ c.args.steps = omega arith in
    record {
      some = let stands = old.stands in rw all at stands.any_is;
      bytes = λ told. let moved = old.so_far told in rw all at moved;
      case = let stands = old.stands in stands.same_case;
      cause = old.faults;
    }
