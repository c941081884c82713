use Rattle.std.proofs.Common.{◌≡◌, true, ap, sym, ◌∙◌, arith}
use Rattle.event_core.specs.EventCore.{is_front, is_empty_hand}
use Rattle.event_core.specs.State.{inside_core}
use Rattle.event_core.proofs.Steps.{drop-front}
use Rattle.event_core.proofs.Placed.{IsPlaced-claim, claim-room}
use Rattle.event_core.proofs.states.State.claim.Goals as goal

pub put-requires : goal.put-requires
put-requires c =
    let front : is_front c.self.inside.queue.items c.args.job ≡ true = ap (λ q. is_front q c.args.job) (sym c.deref.ensures.value) ∙ sym c.is_front.ensures ∙ c.if-is_front.true in
    omega (arith, claim-room c.self.inside.jobs (inside_core c.self.inside) c.args.job c.self.invariant.placed front, c.self.invariant.hands_room, c.self.inside.hands.ok)

pub invariant_of-self : goal.invariant_of-self
invariant_of-self c =
    let front : is_front c.self.inside.queue.items c.args.job ≡ true = ap (λ q. is_front q c.args.job) (sym c.deref.ensures.value) ∙ sym c.is_front.ensures ∙ c.if-is_front.true in
    let free : is_empty_hand c.self.inside.hands.items c.args.worker ≡ true = ap (λ h. is_empty_hand h c.args.worker) (sym c.deref-then-is_front.ensures.value) ∙ sym c.is_empty_hand.ensures ∙ c.if-is_empty_hand.true in
    record {
      placed = rw (c.remove.ensures.items, c.put.ensures.items, drop-front) (IsPlaced-claim c.self.inside.jobs (inside_core c.self.inside) c.self.invariant.placed c.args.worker c.args.job front free);
      queue_room = omega (arith, c.self.invariant.queue_room, c.remove.ensures.capacity);
      hands_room = omega (arith, c.self.invariant.hands_room, c.put.ensures.room);
      filed_room = c.self.invariant.filed_room;
      kept_room = c.self.invariant.kept_room;
    }
