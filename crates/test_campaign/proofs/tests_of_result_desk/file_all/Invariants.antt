use Rattle.std.proofs.Common.{◌≡◌, ◌+◌, length}
use Rattle.test_campaign.proofs.tests_of_result_desk.file_all.Given as goal

abbrev pub invariant-loop-bit : goal.invariant-loop-bit
invariant-loop-bit g l = record {
  machine : l.machine.case ≡ l.fn.machine.case;
  case : l.tally.case ≡ l.case;
  page : l.tally.page ≡ l.fn.tally.page;
  offered : length l.tally.offered ≡ length l.fn.tally.offered + l.bit-index;
  parts : l.tally.parts ≡ l.fn.tally.parts;
}
