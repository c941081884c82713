use Rattle.std.proofs.Common.{arith}
use Rattle.event_core.specs.State.{inside_core}
use Rattle.event_core.proofs.Placed.{IsPlaced-keep, lengths-le}
use Rattle.event_core.proofs.states.State.keep.Goals as goal

pub put_all-requires : goal.put_all-requires
put_all-requires c =
    omega (arith, lengths-le c.self.inside.jobs (inside_core c.self.inside) c.self.invariant.placed, c.self.invariant.kept_room, c.deref.ensures.len, c.self.inside.kept.ok, c.self.inside.filed.ok)

pub invariant_of-self : goal.invariant_of-self
invariant_of-self c = record {
  placed = rw (c.clear.ensures.items, c.put_all.ensures.items, c.deref.ensures.value) (IsPlaced-keep c.self.inside.jobs (inside_core c.self.inside) c.self.invariant.placed);
  queue_room = c.self.invariant.queue_room;
  hands_room = c.self.invariant.hands_room;
  filed_room = omega (arith, c.self.invariant.filed_room, c.clear.ensures.capacity);
  kept_room = omega (arith, c.self.invariant.kept_room, c.put_all.ensures.room);
}
