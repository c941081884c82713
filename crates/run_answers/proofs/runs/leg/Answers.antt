use Rattle.std.proofs.Common.{◌≡◌, true, false, subst, arith, rules}
use Rattle.fs_model.specs.Case.{CaseData}
use Rattle.fs_model.specs.Event.{goes_on}
use Rattle.run_answers.proofs.Legs.{IsLegOf, leg_off, leg_on}
use Rattle.run_answers.proofs.runs.leg.Goals as goal

pub returns-then-not-goes_on-clause-leg : goal.returns-then-not-goes_on-clause-leg
returns-then-not-goes_on-clause-leg c =
    let case = c.args.reference.now in
    let off : goes_on c.run-event.result.0 ≡ false = search rules in
    let bound = c.run-event.ensures.bound in
    let l : IsLegOf case c.args.machine.now.core c.args.most c.run-event.result.0 c.run-event.result.1 c.run-event.new.self.core =
    subst (λ (x : CaseData). IsLegOf x c.args.machine.now.core c.args.most c.run-event.result.0 c.run-event.result.1 c.run-event.new.self.core) c.requires.machine
    (record { event_is = c.run-event.ensures.event; steps_is = c.run-event.ensures.steps; core_is = c.run-event.ensures.core; bound = bound }) in
    record {
      within = omega (arith, bound, c.requires.within);
      goes = λ h. absurd (cc (off, h));
      ends = λ h. leg_off case c.args.machine.now.core c.run-event.new.self.core c.args.at.now c.args.most c.run-event.result.1 c.args.output.now.items c.run-event.result.0 c.requires.within l off;
    }

pub returns-clause-leg : goal.returns-clause-leg
returns-clause-leg c =
    let case = c.args.reference.now in
    let on : goes_on c.run-event.result.0 ≡ true = search rules in
    let bound = c.run-event.ensures.bound in
    let l : IsLegOf case c.args.machine.now.core c.args.most c.run-event.result.0 c.run-event.result.1 c.run-event.new.self.core =
    subst (λ (x : CaseData). IsLegOf x c.args.machine.now.core c.args.most c.run-event.result.0 c.run-event.result.1 c.run-event.new.self.core) c.requires.machine
    (record { event_is = c.run-event.ensures.event; steps_is = c.run-event.ensures.steps; core_is = c.run-event.ensures.core; bound = bound }) in
    record {
      within = omega (arith, bound, c.requires.within);
      goes = λ h.
          leg_on case c.args.machine.now.core c.run-event.new.self.core c.args.at.now c.args.most c.run-event.result.1 c.args.output.now.items c.add_sent.new.output.items c.run-event.result.0 c.requires.within l on c.in_ok-add_sent.ensures;
      ends = λ h. absurd (cc (on, h));
    }
