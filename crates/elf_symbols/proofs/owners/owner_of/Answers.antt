use Rattle.std.proofs.Common.{length, refl, sym}
use Rattle.elf_symbols.proofs.Owning.{owner_end, is_owner}
use Rattle.elf_symbols.specs.Owners.{has}
use Rattle.elf_symbols.proofs.owners.owner_of.Goals as goal

pub loop-i-init : goal.loop-i-init
loop-i-init c = sym (owner_end (has c.args.function c.args.at) c.args.symbols.now (length c.args.symbols.now) refl)

pub returns-clause-greatest : goal.returns-clause-greatest
returns-clause-greatest c = is_owner (has c.args.function c.args.at) c.args.symbols.now c.loop-i.best c.loop-i.i c.loop-i-test.false c.loop-i.invariant
