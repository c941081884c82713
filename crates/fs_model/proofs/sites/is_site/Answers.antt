use Rattle.std.proofs.Common.{◌≡◌, ◌<◌, arith, ap, ◌∙◌, length}
use Rattle.std.proofs.lemmas.Bool.Decides.{Decides-ltb}
use Rattle.fs_model.specs.Cell.{first_cell}
use Rattle.fs_model.proofs.sites.is_site.Goals as goal

pub returns-clause-yes : goal.returns-clause-yes
returns-clause-yes c told =
    let low : c.args.site.now.bit < c.bits.result = (Decides-ltb c.args.site.now.bit c.bits.result).0 told in
    let first : c.first_cell.result ≡ first_cell c.args.case.now.pc_cell = c.first_cell.ensures ∙ ap first_cell c.pc_cell.ensures in
    let ram : length c.ram.result.now ≡ length c.args.case.now.ram = ap length c.ram.ensures in
    (omega arith, (omega (arith, first), omega (arith, ram, c.end_of_cells-end.ensures)), omega (arith, low, c.bits.ensures.value))
