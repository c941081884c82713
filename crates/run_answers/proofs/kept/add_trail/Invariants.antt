use Rattle.std.proofs.Common.{◌≡◌}
use Rattle.std.specs.Prelude.{All}
use Rattle.run_answers.proofs.kept.add_trail.Given as goal

abbrev pub invariant-loop : goal.invariant-loop
invariant-loop l = All (λ s. s.machine.case ≡ l.machine.case) l.trail.items
