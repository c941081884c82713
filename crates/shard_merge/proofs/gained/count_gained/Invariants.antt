use Rattle.std.proofs.Common.{◌≡◌, ◌+◌, ◌≤◌, length}
use Rattle.shard_merge.specs.Gained.{gained, gained_behind}
use Rattle.shard_merge.proofs.gained.count_gained.Given as goal

abbrev pub invariant-loop-number : goal.invariant-loop-number
invariant-loop-number l = record {
  counted : l.count + length (gained_behind l.number l.board l.other) ≡ length (gained l.board l.other);
  few : l.count ≤ l.number;
}
