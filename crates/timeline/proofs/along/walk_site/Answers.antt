use Rattle.std.proofs.Common.{◌≡◌, ◌-◌, arith, ap, ◌∙◌}
use Rattle.rv_machine.specs.Machines.{MachineData}
use Rattle.timeline.proofs.States.{here_before, before_here, here_after, after_here, on_flip}
use Rattle.timeline.proofs.along.walk_site.Goals as goal

pub advance-requires-clause-at : goal.advance-requires-clause-at
advance-requires-clause-at c = here_before _ c.args.site _ _ _ (omega arith) c.requires.here

pub returns-then-to-site : goal.returns-then-to-site
returns-then-to-site c = before_here _ c.args.site _ _ _ (omega arith) c.advance.ensures.at

pub advance_on-requires-clause-at : goal.advance_on-requires-clause-at
advance_on-requires-clause-at c = here_after _ c.args.site _ _ _ (omega arith) c.requires.here

pub returns-then-from-site : goal.returns-then-from-site
returns-then-from-site c = after_here _ c.args.site _ _ _ (omega arith) c.advance_on.ensures

pub advance-sent-requires-clause-at : goal.advance-sent-requires-clause-at
advance-sent-requires-clause-at c = here_before _ c.args.site _ _ _ (omega arith) c.requires.here

pub advance_on-requires-2-clause-at : goal.advance_on-requires-2-clause-at
advance_on-requires-2-clause-at c =
    let none : c.args.site.cycle - c.args.site.cycle ≡ 0 = omega arith in
    let at = c.advance-sent.ensures.at in
    let case : c.flip.new.self.case ≡ c.args.machine.now.case = ap (λ (m : MachineData). m.case) c.flip.ensures ∙ at.same_case in
    on_flip c.args.machine.now.case _ c.args.site _ _ c.advance-sent.new.machine _ case none at c.flip.ensures

pub returns : goal.returns
returns c =
    let at = c.advance-sent.ensures.at in
    let case : c.flip.new.self.case ≡ c.args.machine.now.case = ap (λ (m : MachineData). m.case) c.flip.ensures ∙ at.same_case in
    let on = c.advance_on-2.ensures in
    after_here _ c.args.site _ _ _ (omega arith) (rw case at on)
