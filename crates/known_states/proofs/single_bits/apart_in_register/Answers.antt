use Rattle.std.proofs.Common.{arith, length, ◌≤◌, ◌≡◌, ◌<◌, refl, sym, ◌∙◌, ap, subst}
use Rattle.std.specs.Prelude.{◌^◌, bit_xor, slice_index}
use Rattle.fs_model.specs.Case.{CaseData}
use Rattle.fs_model.proofs.Numbering.{bits-reg}
use Rattle.fs_model.specs.Machine.{IsCore}
use Rattle.live_registers.specs.Masks.{mask_at}
use Rattle.known_states.proofs.Flips.{all_but_one, ends_reg, register_cell, unchanged}
use Rattle.known_states.proofs.single_bits.apart_in_register.Goals as goal

pub returns : goal.returns
returns c =
    let base = c.args.base.now in
    let now = c.args.machine.now in
    let l = c.args.live.now in
    let k = c.args.register in
    let bit = c.in_ok-bit.bit in
    let found = c.in_ok-bit.ensures in
    let low : 1 ≤ k = omega (arith, c.if-register-eq0.false) in
    let core : IsCore now.case base.core = subst (λ (x : CaseData). IsCore x base.core) c.requires.case c.facts.ensures in
    let mask : c.mask-mask.result ≡ mask_at l base.core.pc = c.mask-mask.ensures ∙ ap (mask_at l) c.pc.ensures in
    let held : slice_index now.core.regs k ≡ bit_xor (slice_index base.core.regs k) (2 ^ bit) = rw (c.registers.ensures, c.registers-2.ensures) at found.1 in
    let few : k < length base.core.regs = omega (arith, core.regs_length, c.requires.register) in
    let rest = rw (mask, c.registers-3.ensures, c.registers-4.ensures) at c.first_apart.ensures.none in
    let each = all_but_one (mask_at l base.core.pc) now.core.regs base.core.regs k (bit_xor (slice_index base.core.regs k) (2 ^ bit)) c.first_apart.result few held c.requires.below (sym c.is_some.ensures ∙ c.if-is_some.false) rest in
    let ram = unchanged base.core.ram now.core.ram c.changes_since.new.changes.items (c.changes_since.ensures c.if-not-changes_since.false) (sym c.as_slice.ensures.value ∙ c.are_none.ensures c.if-not-are_none.false) in
    record {
      cycle_is = refl;
      cell = register_cell now.case k low c.requires.register;
      bit = rw (bits-reg k c.requires.register) found.0;
      ends = ends_reg now.case l c.requires.live base.core now.core k bit core c.facts-2.ensures low c.requires.register c.requires.pc ram each;
    }
