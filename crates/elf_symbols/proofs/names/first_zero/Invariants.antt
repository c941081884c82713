use Rattle.std.proofs.Common.{◌≡◌, ℕ, ◌<◌, false, get_or}
use Rattle.elf_symbols.specs.Names.{is_zero}
use Rattle.elf_symbols.proofs.names.first_zero.Given as goal

abbrev pub invariant-loop-place : goal.invariant-loop-place
invariant-loop-place l = (k : ℕ) → k < l.place → is_zero (get_or l.bytes k 0) ≡ false
