use Rattle.std.proofs.Common.{◌≡◌, ◌⊎◌, inl, inr, ℕ, false, refl, sym}
use Rattle.fs_model.specs.declared.events.TrapKind.{TrapKind}
use Rattle.fs_model.specs.declared.events.Event.{Event}
use Rattle.fs_model.specs.declared.events.Event.TheVariants.{Went, Halted, Detected, Trapped}
use Rattle.plain_commands.specs.Walk.{sends}
use Rattle.plain_commands.proofs.Sends.{moved_quiet}
use Rattle.plain_commands.proofs.lines.put_sent.Goals as goal

quiet : (event : Event) → (event ≡ Went) ⊎ (((x : ℕ) × (event ≡ Halted x)) ⊎ ((event ≡ Detected) ⊎ ((kind : TrapKind) × (event ≡ Trapped kind)))) → sends event ≡ false
quiet event (inl e) = rw e refl
quiet event (inr (inl h)) = rw h.1 refl
quiet event (inr (inr (inl e))) = rw e refl
quiet event (inr (inr (inr h))) = rw h.1 refl

pub returns-in-Went : goal.returns-in-Went
returns-in-Went g c =
    let none = quiet c.args.event c.in-Went.is in
    record { sends = sym none; bytes = λ told. moved_quiet c.args.event _ _ none; cause = refl }
