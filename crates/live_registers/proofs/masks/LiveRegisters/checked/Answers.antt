use Rattle.std.proofs.Common.{◌≡◌, true, List, ℕ, sym, subst, rules}
use Rattle.fs_model.specs.Case.{CaseData}
use Rattle.dead_cells.specs.Live.{IsLiveness, IsRomLiveness}
use Rattle.dead_cells.proofs.Live.{rom_liveness}
use Rattle.live_registers.specs.Masks.{live_of}
use Rattle.live_registers.proofs.Rom.{trivial}
use Rattle.live_registers.proofs.masks.LiveRegisters.checked.Goals as goal

pub returns-then-is_settled : goal.returns-then-is_settled
returns-then-is_settled c =
    let case = c.args.case.now in
    let yes : c.is_settled.result ≡ true = search rules in
    let by_base : IsLiveness case (live_of (record { base = case.rom_base; masks = c.as_slice.result.now })) = rom_liveness case _ (c.is_settled.ensures yes) in
    let by_items : IsLiveness case (live_of (record { base = case.rom_base; masks = c.args.masks.items })) = subst (λ (x : List ℕ). IsLiveness case (live_of (record { base = case.rom_base; masks = x }))) c.as_slice.ensures.value by_base in
    subst (λ (x : ℕ). IsLiveness case (live_of (record { base = x; masks = c.args.masks.items }))) (sym c.rom_base-base.ensures) by_items

pub returns-else-is_settled : goal.returns-else-is_settled
returns-else-is_settled c = trivial c.args.case.now c.rom_base-base.result c.new-none.result.items c.new-none.ensures.items
