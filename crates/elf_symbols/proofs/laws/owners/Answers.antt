use Rattle.elf_symbols.proofs.Owning.{owner_is_owner}
use Rattle.elf_symbols.proofs.laws.owners.Goals as goal

pub returns : goal.returns
returns c = owner_is_owner
