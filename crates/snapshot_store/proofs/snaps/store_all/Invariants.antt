use Rattle.std.proofs.Common.{◌≡◌, ◌-◌, ◌*◌, ◌≤◌, length}
use Rattle.snapshot_store.specs.Along.{IsAt}
use Rattle.snapshot_store.specs.Stored.{AreSnaps}
use Rattle.snapshot_store.proofs.snaps.store_all.Given as goal

abbrev pub invariant-loop-next : goal.invariant-loop-next
invariant-loop-next l = record {
  stands : IsAt l.case l.here l.machine l.sent;
  order : l.here ≤ l.next;
  place : l.next ≡ length l.list.items * l.spacing;
  snaps : AreSnaps l.case l.spacing l.list.items;
}

abbrev pub decreases-loop-next : goal.decreases-loop-next
decreases-loop-next l = l.n - l.next
