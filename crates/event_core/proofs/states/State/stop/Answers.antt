use Rattle.std.proofs.Common.{arith}
use Rattle.event_core.specs.State.{inside_core}
use Rattle.event_core.proofs.Placed.{IsPlaced-stop}
use Rattle.event_core.proofs.states.State.stop.Goals as goal

pub invariant_of-self : goal.invariant_of-self
invariant_of-self c = record {
  placed = rw (c.clear.ensures.items, c.clear-2.ensures.items, c.clear-3.ensures.items) (IsPlaced-stop c.self.inside.jobs (inside_core c.self.inside) c.self.invariant.placed);
  queue_room = omega (arith, c.self.invariant.queue_room, c.clear.ensures.capacity);
  hands_room = omega (arith, c.self.invariant.hands_room, c.clear-2.ensures.capacity);
  filed_room = omega (arith, c.self.invariant.filed_room, c.clear-3.ensures.capacity);
  kept_room = c.self.invariant.kept_room;
}
