use Rattle.std.proofs.Common.{◌≡◌, ℕ, ◌-◌, ap, ◌∙◌, arith}
use Rattle.rv_machine.specs.Machines.{MachineData}
use Rattle.snapshot_store.proofs.AlongLegs.{at_case}
use Rattle.experiment.proofs.Injected.{at_reset, in_limit, sent_few, injected_is, outcome_is, rose_chain, steps_same}
use Rattle.experiment.proofs.plain.run_site_plain.Goals as goal

pub advance-sent-requires-clause-at : goal.advance-sent-requires-clause-at
advance-sent-requires-clause-at c = at_reset c.args.case.now c.args.machine.now c.rewind.new.self c.requires.machine c.rewind.ensures

pub overflow_sub-limit : goal.overflow_sub-limit
overflow_sub-limit c = in_limit c.args.case.now c.args.golden.now c.args.site.now.cycle c.limit.result c.requires.golden c.limit.ensures c.requires.cycle

pub run_on-requires : goal.run_on-requires
run_on-requires c =
    let at = at_case c.args.case.now c.rewind.new.self.case c.args.site.now.cycle c.advance-sent.result c.advance-sent.new.machine (ap (λ (m : MachineData). m.case) c.rewind.ensures ∙ c.requires.machine) c.advance-sent.ensures.at in
    sent_few c.args.case.now c.args.golden.now c.args.site.now.cycle c.advance-sent.result c.advance-sent.new.machine c.requires.golden c.requires.cycle at

pub returns : goal.returns
returns c =
    let case = c.args.case.now in
    let site = c.args.site.now in
    let same = ap (λ (m : MachineData). m.case) c.rewind.ensures ∙ c.requires.machine in
    let at = at_case case c.rewind.new.self.case site.cycle c.advance-sent.result c.advance-sent.new.machine same c.advance-sent.ensures.at in
    let left : c.limit.result - site.cycle ≡ case.limit - site.cycle = ap (λ (n : ℕ). n - site.cycle) c.limit.ensures in
    let is = injected_is case c.args.golden.now site c.advance-sent.result (c.limit.result - site.cycle) c.advance-sent.new.machine c.flip.new.self c.requires.golden c.requires.cycle at c.flip.ensures left in
    record {
      outcome = outcome_is case c.args.golden.now site c.run_on.result _ c.requires.golden c.run_on.ensures.outcome is;
      taken = rose_chain c.args.machine.now.taken c.rewind.new.self.taken c.advance-sent.new.machine.taken c.flip.new.self.taken c.run_on.new.machine.taken (site.cycle - 0) site.cycle _ _
          (ap (λ (m : MachineData). m.taken) c.rewind.ensures) c.advance-sent.ensures.taken (ap (λ (m : MachineData). m.taken) c.flip.ensures) c.run_on.ensures.taken (omega arith) (steps_same _ _ _ _ left is);
      case = c.run_on.ensures.case ∙ ap (λ (m : MachineData). m.case) c.flip.ensures ∙ at.same_case ∙ (let back = c.requires.machine in cc);
    }
