use Rattle.site_counts.proofs.OnBoard.{on_boards}
use Rattle.site_counts.proofs.Once.{once}
use Rattle.site_counts.proofs.laws.on_board.Goals as goal

pub returns-clause-board : goal.returns-clause-board
returns-clause-board c = on_boards

pub returns-clause-once : goal.returns-clause-once
returns-clause-once c = once
