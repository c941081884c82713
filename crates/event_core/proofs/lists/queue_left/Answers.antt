use Rattle.std.proofs.Common.{length, arith, ap, sym, ◌∙◌}
use Rattle.event_core.proofs.Steps.{left-short, left-more_yes, left-more_no}
use Rattle.event_core.proofs.lists.queue_left.Goals as goal
use Rattle.event_core.proofs.lists.queue_left.Goals.{then-not-contains, else-not-contains}

pub put-requires : goal.put-requires
put-requires c =
    omega (arith, ap length c.loop-job.invariant.0, left-short c.args.kept.now c.loop-job.job-counter, c.loop-job.invariant.1, c.requires.room, c.loop-job.queue.ok)

pub loop-job-preserved : goal.loop-job-preserved
loop-job-preserved c =
    elim c.if-not-contains.branch [
      | then-not-contains w ↦ (rw (w.queue-is, w.put.ensures.items) (left-more_yes c.args.kept.now c.loop-job.queue.items c.loop-job.job-counter c.loop-job.invariant.0 (sym c.contains.ensures.value ∙ w.if-not-contains.true)), rw w.queue-is (omega (arith, c.loop-job.invariant.1, w.put.ensures.room)))
      | else-not-contains w ↦ (rw w.queue-is (left-more_no c.args.kept.now c.loop-job.queue.items c.loop-job.job-counter c.loop-job.invariant.0 (sym c.contains.ensures.value ∙ w.if-not-contains.false)), rw w.queue-is c.loop-job.invariant.1)
    ]
