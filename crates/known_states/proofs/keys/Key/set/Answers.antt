use Rattle.std.proofs.Common.{◌≡◌, ℕ, ◌<◌, List, ap, subst, ◌∙◌, rules}
use Rattle.fs_model.specs.Case.{CaseData}
use Rattle.fs_model.specs.Machine.{IsCore}
use Rattle.fs_model.specs.Run.{after}
use Rattle.snapshot_store.specs.Stored.{kept_at_most}
use Rattle.known_states.specs.Changes.{changed}
use Rattle.live_registers.specs.Masks.{mask_at}
use Rattle.known_states.specs.Live.{live_only}
use Rattle.known_states.proofs.Alike.{key_alike}
use Rattle.known_states.proofs.keys.Key.set.Goals as goal

pub returns : goal.returns
returns c = λ yes.
    let snaps = c.args.snaps.now in
    let core = c.args.machine.now.core in
    let kept = c.live_only-registers.result in
    let ram : changed (after snaps.case (kept_at_most snaps.spacing snaps.count c.args.cycle)).core.ram c.changes_since-has_room.new.changes.items ≡ core.ram = search rules in
    let mask : c.mask.result ≡ mask_at c.args.live.now core.pc = c.mask.ensures ∙ ap (mask_at c.args.live.now) c.pc.ensures in
    let each = λ (k : ℕ) (few : k < 32). c.live_only-registers.ensures.each k few ∙ ap (λ (m : ℕ). live_only m c.registers.result.now k) mask ∙ ap (λ (regs : List ℕ). live_only (mask_at c.args.live.now core.pc) regs k) c.registers.ensures in
    key_alike snaps.case c.args.live.now core kept _ c.pc-self-inside.result c.args.cycle c.args.sent c.requires.live (subst (λ (x : CaseData). IsCore x core) c.requires.case c.facts.ensures) c.live_only-registers.ensures.size each c.pc-self-inside.ensures ram
