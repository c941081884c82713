use Rattle.std.proofs.Common.{sym, ap, ◌∙◌}
use Rattle.std.proofs.lemmas.List.{take_all}
use Rattle.event_core.specs.EventCore.{times_held}
use Rattle.event_core.proofs.Steps.{unheld-more}
use Rattle.event_core.proofs.lists.holder.Goals as goal

pub loop-hand-preserved : goal.loop-hand-preserved
loop-hand-preserved c = unheld-more _ _ _ _ c.loop-hand.invariant c.loop-hand-test.true c.if-hand-job.false

pub returns-clause-none : goal.returns-clause-none
returns-clause-none c none =
    sym (ap (λ hands. times_held c.args.job hands) (take_all c.loop-hand.hand-index c.args.hands.now c.loop-hand-test.false)) ∙ c.loop-hand.invariant
