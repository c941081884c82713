use Rattle.std.proofs.Common.{◌≡◌, ℕ, ◌+◌, ◌-◌, ◌*◌, List, length, ap, ◌∙◌}
use Rattle.fs_model.specs.Cell.{first_cell}
use Rattle.sampling.proofs.Blocks.{by_register, by_byte, bit_of_register, bit_of_byte}
use Rattle.sampling.proofs.sites.site_at.Goals as goal

pub returns-then-rest-registers-clause-listed : goal.returns-then-rest-registers-clause-listed
returns-then-rest-registers-clause-listed c = λ cycles lt.
    let pc_is : c.first_cell-first.result ≡ first_cell c.args.case.now.pc_cell = c.first_cell-first.ensures ∙ ap first_cell c.pc_cell.ensures in
    let ram_is = ap (λ (l : List ℕ). 32 * (32 - c.first_cell-first.result) + 8 * length l) c.ram.ensures in
    by_register (length c.args.case.now.ram) cycles c.args.index c.first_cell-first.result _ c.args.case.now.pc_cell pc_is ram_is lt c.if-rest-registers.true

pub returns-else-rest-registers-clause-listed : goal.returns-else-rest-registers-clause-listed
returns-else-rest-registers-clause-listed c = λ cycles lt.
    let pc_is : c.first_cell-first.result ≡ first_cell c.args.case.now.pc_cell = c.first_cell-first.ensures ∙ ap first_cell c.pc_cell.ensures in
    let ram_is = ap (λ (l : List ℕ). 32 * (32 - c.first_cell-first.result) + 8 * length l) c.ram.ensures in
    rw c.byte_cell.ensures (by_byte (length c.args.case.now.ram) cycles c.args.index c.first_cell-first.result _ c.args.case.now.pc_cell pc_is ram_is lt c.if-rest-registers.false)

pub returns-then-rest-registers-clause-bit : goal.returns-then-rest-registers-clause-bit
returns-then-rest-registers-clause-bit c = bit_of_register _ _ c.if-rest-registers.true

pub returns-else-rest-registers-clause-bit : goal.returns-else-rest-registers-clause-bit
returns-else-rest-registers-clause-bit c = rw c.byte_cell.ensures (bit_of_byte _)
