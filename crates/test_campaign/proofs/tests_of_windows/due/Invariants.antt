use Rattle.std.proofs.Common.{◌≤◌}
use Rattle.test_campaign.proofs.tests_of_windows.due.Given as goal

abbrev pub invariant-loop-number : goal.invariant-loop-number
invariant-loop-number l = l.count ≤ l.number
