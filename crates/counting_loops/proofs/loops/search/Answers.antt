use Rattle.std.proofs.Common.{◌≡◌, ◌∙◌, ℕ, List, ◌+◌, ◌-◌, ◌≤◌, true, refl, sym, ap, rules, arith}
use Rattle.fs_model.specs.Machine.{Core}
use Rattle.rv_machine.specs.Machines.{MachineData}
use Rattle.counting_loops.specs.Rounds.{LeadsTo}
use Rattle.counting_loops.proofs.Paths.{leads_none, leads_to_long, left_sum, left_less}
use Rattle.counting_loops.proofs.loops.search.Goals as goal

pub loop-stage-init : goal.loop-stage-init
loop-stage-init c = record {
  head_is = ap (λ (m : MachineData). m.case) c.copy_from.ensures;
  machine_is = refl;
  few = omega arith;
  leads =
      let none : c.args.left - c.args.left ≡ 0 = omega arith in
      let core : c.copy_from.new.self.core ≡ c.args.start.now.core = ap (λ (m : MachineData). m.core) c.copy_from.ensures in
      rw (none, core) (leads_none c.args.case.now c.args.start.now.core);
}

pub follow-requires : goal.follow-requires
follow-requires c =
    let copied = c.copy_from-in-loop-stage.ensures in
    record {
      head = c.loop-stage.invariant.head_is ∙ c.requires.head;
      kept = ap (λ (m : MachineData). m.case) copied ∙ c.loop-stage.invariant.machine_is ∙ c.requires.machine;
      same = ap (λ (m : MachineData). m.core) copied;
    }

-- the steps that were taken before, and then those that are left
pub returns-in-Repeats-clause-over : goal.returns-in-Repeats-clause-over
returns-in-Repeats-clause-over c = λ _ output.
    let few = c.loop-stage.invariant.few in
    leads_to_long c.args.case.now c.args.start.now.core c.loop-stage.scratch.head.core (c.args.left - c.loop-stage.rest) c.args.left c.loop-stage.rest output c.loop-stage.invariant.leads (omega (arith, few))
    (c.follow.ensures.repeats c.in-Repeats.is c.loop-stage.rest)

pub returns-then-found-clause-over : goal.returns-then-found-clause-over
returns-then-found-clause-over c = λ _ output.
    let leads = c.follow.ensures.leads c.in-Goes.is c.args.start.now.core (c.args.left - c.loop-stage.rest) c.loop-stage.invariant.leads in
    leads_to_long c.args.case.now c.args.start.now.core c.follow.new.head.core _ c.args.left _ output leads (left_sum c.args.left c.loop-stage.rest _ c.loop-stage.invariant.few c.if-rest-steps.false) (c.stays-found.ensures.over c.if-found.true)

pub loop-stage-preserved : goal.loop-stage-preserved
loop-stage-preserved c =
    let leads = c.follow.ensures.leads c.in-Goes.is c.args.start.now.core (c.args.left - c.loop-stage.rest) c.loop-stage.invariant.leads in
    let head = c.stays-found.ensures.head in
    let few = c.loop-stage.invariant.few in
    record {
      head_is = ap (λ (m : MachineData). m.case) head ∙ c.follow.ensures.case ∙ c.loop-stage.invariant.head_is;
      machine_is = c.stays-found.ensures.machine ∙ ap (λ (m : MachineData). m.case) c.copy_from-in-loop-stage.ensures ∙ c.loop-stage.invariant.machine_is;
      few = omega (arith, few);
      leads = rw (left_less c.args.left c.loop-stage.rest _ c.loop-stage.invariant.few c.if-rest-steps.false, ap (λ (m : MachineData). m.core) head) leads;
    }
