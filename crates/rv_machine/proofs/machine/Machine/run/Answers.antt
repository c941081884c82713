use Rattle.std.proofs.Common.{◌∙◌, sym, arith}
use Rattle.fs_model.proofs.Legs.{IsCore-leg, leg_some, leg_all}
use Rattle.rv_machine.specs.Cores.{core_of}
use Rattle.rv_machine.proofs.machine.Machine.run.Goals as goal

pub invariant_of-self : goal.invariant_of-self
invariant_of-self c = record {
  core = rw c.leg-event.ensures.end.core_is (IsCore-leg _ _ c.args.most c.self.invariant.core);
  marks = c.leg-event.ensures.marks;
}

pub returns-clause-some : goal.returns-clause-some
returns-clause-some c =
    λ more. let some = leg_some c.self.inside.program (core_of c.self.inside.state) c.args.most more in let left = c.leg-event.ensures.end.left_is in omega arith

pub returns-clause-all : goal.returns-clause-all
returns-clause-all c =
    λ went. let all = leg_all c.self.inside.program (core_of c.self.inside.state) c.args.most (sym c.leg-event.ensures.end.event_is ∙ went) in let left = c.leg-event.ensures.end.left_is in omega arith
