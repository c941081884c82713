use Rattle.std.proofs.Common.{arith}
use Rattle.event_core.specs.State.{inside_core}
use Rattle.event_core.proofs.Placed.{IsPlaced-resume}
use Rattle.event_core.proofs.states.State.resume.Goals as goal

pub invariant_of-self : goal.invariant_of-self
invariant_of-self c = record {
  placed = rw (c.queue_left.ensures.items, c.deref.ensures.value) (IsPlaced-resume c.self.inside.jobs (inside_core c.self.inside) c.self.invariant.placed c.if-self.false);
  queue_room = omega (arith, c.self.invariant.queue_room, c.queue_left.ensures.room);
  hands_room = c.self.invariant.hands_room;
  filed_room = c.self.invariant.filed_room;
  kept_room = c.self.invariant.kept_room;
}
