use Rattle.std.proofs.Common.{◌≡◌, take}
use Rattle.std.specs.Prelude.{sum_by}
use Rattle.fs_model.specs.Outcome.{all_outcomes, total_at}
use Rattle.fs_model.proofs.outcomes.Totals.sum.Given as goal

abbrev pub invariant-loop-outcome : goal.invariant-loop-outcome
invariant-loop-outcome l = l.sum ≡ sum_by (λ o. total_at l.self o) (take l.outcome-index all_outcomes)
