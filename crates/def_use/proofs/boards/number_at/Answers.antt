use Rattle.std.proofs.Common.{rules}
use Rattle.def_use.specs.Words.{bits_at}
use Rattle.def_use.proofs.boards.number_at.Goals as goal

pub returns : goal.returns
unfolding bits_at
returns c = search rules
