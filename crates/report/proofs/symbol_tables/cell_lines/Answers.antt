use Rattle.std.proofs.Common.{rules, ◌≡◌, ◌+◌, ◌++◌, length, replicate, refl, ap, ◌∙◌}
use Rattle.fs_model.specs.Map.{MapData}
use Rattle.report.proofs.SymbolTables.{registers_first}
use Rattle.report.proofs.symbol_tables.cell_lines.Goals as goal

pub returns : goal.returns
returns c =
    let base : c.ram_base.result ≡ c.args.case.now.ram_base = c.ram_base.ensures ∙ ap (λ (m : MapData). m.ram_base) c.map-map.ensures in
    let size : length c.in_ok-bytes.bytes.items ≡ length c.args.case.now.ram = c.in_ok-bytes.ensures.count ∙ c.ram_size.ensures ∙ ap (λ (m : MapData). m.ram_size) c.map-map.ensures in
    let registers : c.in_ok-lines.lines.items ≡ replicate 32 (length c.args.symbols.now + 1) = search rules in
    registers_first c.args.case.now c.args.symbols.now (length c.args.symbols.now + 1) c.in_ok-bytes.bytes.items c.extend_from_slice.new.self.items refl size
    (rw base at c.in_ok-bytes.ensures.lines)
    (c.in_ok-extend_from_slice.ensures.items ∙ ap (λ x. x ++ c.deref.result.now) registers ∙ ap (λ y. replicate 32 (length c.args.symbols.now + 1) ++ y) c.deref.ensures.value)
