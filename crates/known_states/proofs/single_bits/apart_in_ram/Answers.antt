use Rattle.std.proofs.Common.{◌≡◌, ℕ, ◌+◌, ◌<◌, List, length, refl, sym, ◌∙◌, ap, subst, arith}
use Rattle.std.specs.Prelude.{◌^◌, bit_xor, slice_index}
use Rattle.fs_model.specs.Case.{CaseData}
use Rattle.fs_model.specs.Cell.{IsCell}
use Rattle.fs_model.proofs.Numbering.{bits-ram}
use Rattle.fs_model.specs.Machine.{IsCore}
use Rattle.known_states.proofs.Flips.{byte_is_cell, ends_ram, one_changed, same_ends, unchanged}
use Rattle.known_states.proofs.single_bits.apart_in_ram.Goals as goal

pub returns-then-are_none : goal.returns-then-are_none
returns-then-are_none c =
    let base = c.args.base.now in
    let now = c.args.machine.now in
    let l = c.args.live.now in
    let core : IsCore now.case base.core = subst (λ (x : CaseData). IsCore x base.core) c.requires.case c.facts.ensures in
    let ram = unchanged base.core.ram now.core.ram c.changes_since.new.changes.items (c.changes_since.ensures c.if-not-changes_since.false) (sym c.as_slice.ensures.value ∙ c.are_none.ensures c.if-are_none.true) in
    record { ends = same_ends now.case l c.requires.live now.core base.core c.facts-2.ensures core c.requires.pc ram c.requires.same }

pub returns : goal.returns
returns c =
    let base = c.args.base.now in
    let now = c.args.machine.now in
    let l = c.args.live.now in
    let change = c.in_ok-change.change in
    let bit = c.in_ok-bit.bit in
    let core : IsCore now.case base.core = subst (λ (x : CaseData). IsCore x base.core) c.requires.case c.facts.ensures in
    let found = c.in_ok-bit.ensures in
    let byte : change.byte ≡ bit_xor (slice_index base.core.ram change.place) (2 ^ bit) =
    found.byte ∙ ap (λ (bytes : List ℕ). bit_xor (slice_index bytes change.place) (2 ^ bit)) c.ram.ensures.value in
    let ram = one_changed base.core.ram now.core.ram c.changes_since.new.changes.items change (bit_xor (slice_index base.core.ram change.place) (2 ^ bit))
    (c.changes_since.ensures c.if-not-changes_since.false) (sym c.as_slice-2.ensures.value ∙ c.in_ok-change.ensures) byte in
    let cell : c.in_ok-cell.cell ≡ change.place + 32 = c.in_ok-cell.ensures.1 in
    let place : change.place < length now.case.ram = omega (arith, found.place, c.ram.ensures.length, ap (λ (x : CaseData). length x.ram) c.requires.case) in
    record {
      cycle_is = refl;
      cell = subst (IsCell now.case) (sym cell) (byte_is_cell now.case change.place place);
      bit = rw (cell, bits-ram (change.place + 32) (omega arith)) found.bit;
      ends = ends_ram now.case l c.requires.live base.core now.core c.in_ok-cell.cell change.place bit cell core c.facts-2.ensures c.requires.pc ram c.requires.same;
    }
