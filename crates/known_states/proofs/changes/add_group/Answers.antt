use Rattle.std.proofs.Common.{refl, arith}
use Rattle.std.proofs.lemmas.Bool.Decides.{Decides-eqb}
use Rattle.std.proofs.lemmas.Slice.Eq.{slice_eq-Decides}
use Rattle.known_states.proofs.Changed.{changed_block, changed_next}
use Rattle.known_states.proofs.changes.add_group.Goals as goal

pub loop-place-preserved : goal.loop-place-preserved
loop-place-preserved c = record {
  within = omega arith;
  changed = changed_next c.args.base.now c.args.now.now c.loop-place.changes.items c.add.new.changes.items _ c.loop-place.place c.loop-place.invariant.changed (omega arith) refl (c.add.ensures c.if-not-add.false);
}

pub returns-then-eq : goal.returns-then-eq
returns-then-eq c = λ yes. changed_block c.args.base.now c.args.now.now c.args.changes.now.items c.args.at c.args.end c.requires.before c.requires.order c.requires.end c.requires.same ((slice_eq-Decides Decides-eqb _ _ _ c.eq.ensures).0 c.if-eq.true)
