use Rattle.dead_cells.proofs.OneStep.{unread_cells}
use Rattle.dead_cells.proofs.laws.unread_cells.Goals as goal

pub returns : goal.returns
returns c = unread_cells
