use Rattle.std.proofs.Common.{◌≤◌}
use Rattle.answer_pages.proofs.shares.count_due.Given as goal

abbrev pub invariant-loop-number : goal.invariant-loop-number
invariant-loop-number l = l.due ≤ l.number
