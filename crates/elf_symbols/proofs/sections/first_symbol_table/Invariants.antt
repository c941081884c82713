use Rattle.std.proofs.Common.{◌≡◌}
use Rattle.elf_symbols.specs.Sections.{first_symbol_table}
use Rattle.elf_symbols.proofs.Walks.{table_from}
use Rattle.elf_symbols.proofs.sections.first_symbol_table.Given as goal

abbrev pub invariant-loop-index : goal.invariant-loop-index
invariant-loop-index l = table_from l.file l.index l.count ≡ first_symbol_table l.file
