use Rattle.std.proofs.Common.{◌≡◌, filter}
use Rattle.elf_symbols.specs.Symbols.{entries, is_chosen, named}
use Rattle.elf_symbols.proofs.Walks.{entries_from, total}
use Rattle.elf_symbols.proofs.tables.chosen.Given as goal

abbrev pub invariant-loop-k : goal.invariant-loop-k
invariant-loop-k l = total l.strings l.list.items (entries_from l.bytes l.table.sh_offset l.k l.count) ≡ named l.strings (filter is_chosen (entries l.bytes l.table))
