use Rattle.std.proofs.Common.{◌≡◌, ◌∙◌, true, sym, ap, subst, rules, arith}
use Rattle.fs_model.specs.Machine.{Core}
use Rattle.rv_machine.specs.Machines.{MachineData}
use Rattle.counting_loops.specs.Rounds.{PathStays}
use Rattle.counting_loops.proofs.Paths.{path_none, path_more}
use Rattle.counting_loops.proofs.rounds.path_stays.Goals as goal

pub loop-step-init : goal.loop-step-init
loop-step-init c = record {
  same_case = ap (λ (m : MachineData). m.case) c.copy_from.ensures;
  stays = subst (λ (core : Core). PathStays c.args.case.now c.args.extent.last 0 c.args.paces.now.registers c.args.paces.now.words c.args.head.now.core c.args.paces.now.registers c.args.paces.now.words core) (sym (ap (λ (m : MachineData). m.core) c.copy_from.ensures))
      (path_none c.args.case.now c.args.extent.last c.args.paces.now.registers c.args.paces.now.words c.args.head.now.core);
}

pub step_stays-requires : goal.step_stays-requires
step_stays-requires c = c.loop-step.invariant.same_case ∙ c.requires.machine

pub loop-step-preserved : goal.loop-step-preserved
loop-step-preserved c =
    let on : c.step_stays.result ≡ true = search rules in
    record {
      same_case = c.step_stays.ensures.case ∙ c.loop-step.invariant.same_case;
      stays = path_more c.args.case.now c.args.extent.last c.loop-step._step c.args.paces.now.registers c.loop-step.now.registers c.step_stays.new.paces
          c.args.paces.now.words c.loop-step.now.words c.step_stays.new.held c.args.head.now.core c.loop-step.machine.core c.step_stays.new.machine.core c.loop-step.invariant.stays (c.step_stays.ensures.stays on);
    }

pub returns-clause-stays : goal.returns-clause-stays
returns-clause-stays c = λ _.
    let end = c.loop-step.auto._step-end in
    let past = c.loop-step-test.false in
    let e : c.loop-step._step ≡ c.args.extent.length = omega (arith, end, past) in
    rw e at c.loop-step.invariant.stays
