use Rattle.std.proofs.Common.{rules, ◌≡◌, ◌≤◌, true, false, arith}
use Rattle.fs_model.specs.Event.{goes_on}
use Rattle.experiment.proofs.Follows.{Ran}
use Rattle.experiment.proofs.Legs.{leg_ends, leg_looks}
use Rattle.experiment.proofs.early.leg.Goals as goal

pub returns-then-not-goes_on : goal.returns-then-not-goes_on
returns-then-not-goes_on c =
    let e = c.run-event.ensures in
    let off : goes_on c.run-event.result.0 ≡ false = search rules in
    let some : 1 ≤ c.args.reference.now.snaps.now.spacing = omega (arith, c.spacing.ensures.some, c.spacing.ensures.value) in
    let ran : Ran c.args.most c.args.machine.now c.run-event.new.self c.run-event.result.0 c.run-event.result.1 =
    record { event_is = e.event; steps_is = e.steps; core_is = e.core; case_is = e.case; taken_is = e.taken; bound = e.bound } in
    record {
      further = omega (arith, e.some, c.requires.some);
      run = λ cycle before s h. leg_ends c.args.reference.now cycle before c.args.at.now c.args.most c.run-event.result.1 s c.args.machine.now c.run-event.new.self c.args.watch.now c.see.new.self
          c.run-event.result.0 c.outcome.result some c.requires.within c.requires.short ran off c.see.ensures.step c.outcome.ensures h;
    }

pub returns-then-rejoined : goal.returns-then-rejoined
returns-then-rejoined c =
    let e = c.run-event.ensures in
    let on : goes_on c.run-event.result.0 ≡ true = search rules in
    let some : 1 ≤ c.args.reference.now.snaps.now.spacing = omega (arith, c.spacing.ensures.some, c.spacing.ensures.value) in
    let any : 1 ≤ c.run-event.result.1 = omega (arith, e.some, c.requires.some) in
    let ran : Ran c.args.most c.args.machine.now c.run-event.new.self c.run-event.result.0 c.run-event.result.1 =
    record { event_is = e.event; steps_is = e.steps; core_is = e.core; case_is = e.case; taken_is = e.taken; bound = e.bound } in
    record {
      further = omega (arith, any);
      run = λ cycle before s h. (leg_looks c.args.reference.now cycle before c.args.at.now c.args.most c.run-event.result.1 s c.args.machine.now c.run-event.new.self c.args.watch.now c.see.new.self
          c.run-event.result.0 c.rejoined.result some any c.requires.within c.requires.short ran on c.see.ensures.step c.rejoined.ensures h).0 c.if-rejoined.true;
    }

pub returns : goal.returns
returns c =
    let e = c.run-event.ensures in
    let on : goes_on c.run-event.result.0 ≡ true = search rules in
    let some : 1 ≤ c.args.reference.now.snaps.now.spacing = omega (arith, c.spacing.ensures.some, c.spacing.ensures.value) in
    let any : 1 ≤ c.run-event.result.1 = omega (arith, e.some, c.requires.some) in
    let ran : Ran c.args.most c.args.machine.now c.run-event.new.self c.run-event.result.0 c.run-event.result.1 =
    record { event_is = e.event; steps_is = e.steps; core_is = e.core; case_is = e.case; taken_is = e.taken; bound = e.bound } in
    record {
      further = omega (arith, any);
      run = λ cycle before s h. (leg_looks c.args.reference.now cycle before c.args.at.now c.args.most c.run-event.result.1 s c.args.machine.now c.run-event.new.self c.args.watch.now c.see.new.self
          c.run-event.result.0 c.rejoined.result some any c.requires.within c.requires.short ran on c.see.ensures.step c.rejoined.ensures h).1 c.if-rejoined.false;
    }

pub overflow_add-at : goal.overflow_add-at
overflow_add-at c = omega (arith, c.requires.within, c.requires.some, c.run-event.ensures.bound, c.limit.ensures)
