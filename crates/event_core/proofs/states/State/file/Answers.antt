use Rattle.std.proofs.Common.{rules, ◌≡◌, ◌==◌, true, not, ap, sym, ◌∙◌, arith, refl}
use Rattle.std.proofs.lemmas.Fn.{filter_same}
use Rattle.event_core.specs.declared.events.HeldJob.{HeldJob}
use Rattle.event_core.specs.EventCore.{holds_job}
use Rattle.event_core.specs.State.{inside_core}
use Rattle.event_core.proofs.Counts.{others_of}
use Rattle.event_core.proofs.Placed.{IsPlaced-file, file-room}
use Rattle.event_core.proofs.states.State.file.Goals as goal

pub put-requires : goal.put-requires
put-requires c =
    let held : holds_job c.self.inside.hands.items c.args.worker c.args.job ≡ true = ap (λ h. holds_job h c.args.worker c.args.job) (sym c.deref.ensures.value) ∙ sym c.holds.ensures ∙ c.if-holds.true in
    omega (arith, file-room c.self.inside.jobs (inside_core c.self.inside) c.args.worker c.args.job c.self.invariant.placed held, c.self.invariant.filed_room, c.self.inside.filed.ok)

pub invariant_of-self : goal.invariant_of-self
invariant_of-self c =
    let held : holds_job c.self.inside.hands.items c.args.worker c.args.job ≡ true = ap (λ h. holds_job h c.args.worker c.args.job) (sym c.deref.ensures.value) ∙ sym c.holds.ensures ∙ c.if-holds.true in
    let left : c.retain.new.self.items ≡ others_of c.args.worker c.self.inside.hands.items =
    filter_same _ (λ (hand : HeldJob). not (hand.worker == c.args.worker)) _ (λ x b f' k. search rules) _ _ c.retain.ensures.filtered in
    record {
      placed = rw (left, c.put.ensures.items) (IsPlaced-file c.self.inside.jobs (inside_core c.self.inside) c.self.invariant.placed c.args.worker c.args.job held);
      queue_room = c.self.invariant.queue_room;
      hands_room = omega (arith, c.self.invariant.hands_room, c.retain.ensures.capacity);
      filed_room = omega (arith, c.self.invariant.filed_room, c.put.ensures.room);
      kept_room = c.self.invariant.kept_room;
    }

pub returns-then-holds-clause-state : goal.returns-then-holds-clause-state
returns-then-holds-clause-state c =
    let held : holds_job c.self.inside.hands.items c.args.worker c.args.job ≡ true = ap (λ h. holds_job h c.args.worker c.args.job) (sym c.deref.ensures.value) ∙ sym c.holds.ensures ∙ c.if-holds.true in
    let left : c.retain.new.self.items ≡ others_of c.args.worker c.self.inside.hands.items =
    filter_same _ (λ (hand : HeldJob). not (hand.worker == c.args.worker)) _ (λ x b f' k. search rules) _ _ c.retain.ensures.filtered in
    rw (← c.self.view_is, held, left, c.put.ensures.items) refl
