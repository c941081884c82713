use Rattle.std.proofs.Common.{ℕ, ◌<◌}
use Rattle.shard_merge.specs.Union.{AgreeAt}
use Rattle.shard_merge.proofs.disagreements.find_disagreement.Given as goal

abbrev pub invariant-loop-job : goal.invariant-loop-job
invariant-loop-job l = (i : ℕ) → i < l.job → AgreeAt l.board l.other i
