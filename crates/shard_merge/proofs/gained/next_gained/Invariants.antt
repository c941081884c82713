use Rattle.std.proofs.Common.{◌≡◌}
use Rattle.shard_merge.specs.Gained.{gained_behind}
use Rattle.shard_merge.proofs.gained.next_gained.Given as goal

abbrev pub invariant-loop-number : goal.invariant-loop-number
invariant-loop-number l = gained_behind l.number l.board l.other ≡ gained_behind l.from l.board l.other
