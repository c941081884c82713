use Rattle.std.proofs.Common.{◌≡◌}
use Rattle.test_campaign.proofs.tests_of_def_use.look.Given as goal

abbrev pub invariant-loop-place : goal.invariant-loop-place
invariant-loop-place g l = l.walk ≡ l.list
