use Rattle.std.proofs.lemmas.Bool.Decides.{Decides-eqb}
use Rattle.std.proofs.lemmas.Slice.Eq.{slice_eq-Decides}
use Rattle.known_states.proofs.Changed.{changed_block}
use Rattle.known_states.proofs.changes.add_changes.Goals as goal

pub returns-then-eq : goal.returns-then-eq
returns-then-eq c = λ yes. changed_block c.args.base.now c.args.now.now c.args.changes.now.items c.args.at c.args.end c.requires.before c.requires.order c.requires.end c.requires.same ((slice_eq-Decides Decides-eqb _ _ _ c.eq.ensures).0 c.if-eq.true)
