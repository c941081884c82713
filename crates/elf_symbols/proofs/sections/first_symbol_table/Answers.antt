use Rattle.std.proofs.Common.{◌≡◌, false, sym, ◌∙◌, ap}
use Rattle.std.proofs.lemmas.Bool.{ne_eqb}
use Rattle.elf_symbols.specs.Sections.{is_symtab}
use Rattle.elf_symbols.proofs.Walks.{no_table}
use Rattle.elf_symbols.proofs.sections.first_symbol_table.Goals as goal

pub loop-index-preserved : goal.loop-index-preserved
loop-index-preserved c =
    let other : is_symtab c.section-header.result ≡ false = ne_eqb c.section-header.result.sh_type 2 c.if-header-eq-SHT_SYMTAB.false in
    no_table c.args.file.now c.loop-index.index c.section_count-count.result _ c.loop-index-test.true (ap is_symtab (sym c.section-header.ensures) ∙ other) c.loop-index.invariant
