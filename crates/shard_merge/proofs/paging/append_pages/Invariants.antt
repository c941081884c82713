use Rattle.std.proofs.Common.{◌≡◌}
use Rattle.std.specs.Prelude.{vec_capacity}
use Rattle.shard_merge.proofs.OnWay.{IsOnWay}
use Rattle.shard_merge.proofs.paging.append_pages.Given as goal

abbrev pub invariant-loop-left : goal.invariant-loop-left
invariant-loop-left g l = record {
  way : IsOnWay g.D.Disk.tells (g.D.Disk.past l.fn.disk) (g.D.Disk.past l.disk) (g.D.Disk.faults l.fn.disk) (g.D.Disk.faults l.disk) l.fn.keeper l.keeper l.other l.left l.from;
  room : vec_capacity l.rows ≡ vec_capacity l.fn.rows;
}

abbrev pub decreases-loop-left : goal.decreases-loop-left
decreases-loop-left g l = l.left
