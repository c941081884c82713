use Rattle.std.proofs.Common.{◌≡◌, ◌==◌, drop}
use Rattle.std.specs.List.{find}
use Rattle.fs_model.specs.Outcome.{all_outcomes, number_of}
use Rattle.fs_model.proofs.outcomes.Outcome.of_number.Given as goal

-- the outcomes so far have other numbers
abbrev pub invariant-loop-outcome : goal.invariant-loop-outcome
invariant-loop-outcome l = find (λ o. number_of o == l.number) all_outcomes ≡ find (λ o. number_of o == l.number) (drop l.outcome-index all_outcomes)
