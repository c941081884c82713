use Rattle.std.proofs.Common.{◌≡◌, ◌==◌, ◌&&◌, ℕ, ap, ◌∙◌}
use Rattle.std.specs.Bool.{Decides}
use Rattle.std.proofs.lemmas.Bool.Decides.{Decides-and, Decides-eqb}
use Rattle.std.proofs.lemmas.Slice.Eq.{slice_eq-Decides}
use Rattle.known_states.specs.declared.changes.Change.{Change}
use Rattle.known_states.proofs.changes.same_changes.Goals as goal

change_decides : (a b : Change) → Decides ((a.place == b.place) && (a.byte == b.byte)) (a ≡ b)
change_decides a b =
    let d = Decides-and (a.place == b.place) (a.byte == b.byte) (Decides-eqb a.place b.place) (Decides-eqb a.byte b.byte) in (
      λ e. ap (λ (p : ℕ). record { place = p; byte = a.byte }) (d.0 e).0 ∙ ap (λ (y : ℕ). record { place = b.place; byte = y }) (d.0 e).1,
      λ e. d.1 (ap (λ (x : Change). x.place) e, ap (λ (x : Change). x.byte) e),
    )

pub returns : goal.returns
returns c = λ yes. (slice_eq-Decides change_decides c.args.some.now c.args.others.now c.eq.result c.eq.ensures).0 yes
