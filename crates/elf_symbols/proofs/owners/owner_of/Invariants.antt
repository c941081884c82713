use Rattle.std.proofs.Common.{◌≡◌}
use Rattle.elf_symbols.specs.Owners.{has, owner_from}
use Rattle.elf_symbols.proofs.owners.owner_of.Given as goal

abbrev pub invariant-loop-i : goal.invariant-loop-i
invariant-loop-i l = l.best ≡ owner_from (has l.function l.at) l.symbols l.i
