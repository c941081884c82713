use Rattle.std.proofs.Common.{◌≡◌, ◌≤◌, vec_capacity}
use Rattle.event_core.proofs.Steps.{left_below}
use Rattle.event_core.proofs.lists.queue_left.Given as goal

abbrev pub invariant-loop-job : goal.invariant-loop-job
invariant-loop-job l = (l.queue.items ≡ left_below l.kept l.job-counter) × (vec_capacity l.fn.queue ≤ vec_capacity l.queue)
