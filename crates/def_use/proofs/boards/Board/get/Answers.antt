use Rattle.def_use.proofs.BoardWords.{board_at, within_words}
use Rattle.def_use.proofs.boards.Board.get.Goals as goal

pub outcome_at-requires : goal.outcome_at-requires
outcome_at-requires c = rw c.deref.ensures.value (within_words c.self.inside.words.items c.self.inside.jobs c.args.self.now c.self.view_is c.self.inside.kept c.args.number c.self.invariant c.requires)

pub returns : goal.returns
returns c = rw (c.outcome_at.ensures, c.deref.ensures.value) (board_at c.self.inside.words.items c.self.inside.jobs c.args.self.now c.self.view_is c.args.number c.requires)
