use Rattle.std.proofs.Common.{lit<}
use Rattle.fs_model.specs.Outcome.{total_at, totals_of}
use Rattle.fs_model.proofs.outcomes.Totals.zero.Goals as goal

pub invariant_of-result : goal.invariant_of-result
unfolding total_at totals_of
invariant_of-result c = lit< tt
