use Rattle.std.proofs.Common.{◌≡◌}
use Rattle.run_answers.specs.Answers.{answer_with}
use Rattle.run_answers.specs.Kept.{HasPassed, IsKeptOf}
use Rattle.run_answers.proofs.kept.Kept.keep_passed.Given as goal

abbrev pub invariant-loop-self : goal.invariant-loop-self
invariant-loop-self l = record {
  kept : IsKeptOf l.self.case.now l.self;
  case : l.self.case ≡ l.fn.self.case;
  passed : HasPassed l.self.case.now (answer_with l.output l.last) l.self;
}

abbrev pub decreases-loop-self : goal.decreases-loop-self
decreases-loop-self l = l.self.passed
