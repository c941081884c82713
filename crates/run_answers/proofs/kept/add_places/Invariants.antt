use Rattle.std.proofs.Common.{◌≡◌, length}
use Rattle.std.specs.Prelude.{All}
use Rattle.run_answers.specs.Kept.{IsKeptState}
use Rattle.run_answers.proofs.kept.add_places.Given as goal

abbrev pub invariant-loop : goal.invariant-loop
invariant-loop l = record {
  count : length l.states.items ≡ l.counter;
  each : All (λ s. IsKeptState l.machine.case s) l.states.items;
}
