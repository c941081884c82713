use Rattle.std.proofs.Common.{sym}
use Rattle.def_use.proofs.BoardWords.{length_board}
use Rattle.def_use.proofs.boards.Board.len.Goals as goal

pub returns : goal.returns
returns c = sym (length_board c.self.inside.words.items c.self.inside.jobs c.args.self.now c.self.view_is)
