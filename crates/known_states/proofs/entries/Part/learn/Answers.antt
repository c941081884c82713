use Rattle.std.proofs.Common.{rules, subst, sym}
use Rattle.std.proofs.lemmas.List.{length-set}
use Rattle.std.proofs.lemmas.List.Elements.{All-set}
use Rattle.snapshot_store.specs.Stored.{SnapsData}
use Rattle.known_states.specs.Entries.{IsEntry, IsKnownToAll}
use Rattle.known_states.proofs.entries.Part.learn.Goals.{then-copy_from, else-copy_from}
use Rattle.known_states.proofs.entries.Part.learn.Goals as goal

pub invariant_of-self : goal.invariant_of-self
invariant_of-self g c =
    let snaps : SnapsData = record { case = g.K.KnownCase.case; spacing = c.self.inside.spacing; count = c.self.inside.count } in
    let told : IsKnownToAll snaps c.args.key.now c.args.outcome = subst (λ (s : SnapsData). IsKnownToAll s c.args.key.now c.args.outcome) (sym c.self.view_is) c.requires in
    let known : IsEntry snaps (record { key = c.copy_from.new.self; outcome = c.if-copy_from.entry }) = elim c.if-copy_from.branch [
      | then-copy_from w ↦ rw (w.entry-is, c.copy_from.ensures w.if-copy_from.true) told
      | else-copy_from w ↦ rw w.entry-is search rules
    ] in
    record {
      some = simp length-set c.self.invariant.some;
      each = All-set (λ e. IsEntry snaps e) c.self.inside.entries.items _ _ known c.self.invariant.each;
    }
