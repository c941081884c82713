use Rattle.dead_cells.proofs.Sites.{one_dead_cell, same_dead}
use Rattle.dead_cells.proofs.laws.one_dead_cell.Goals as goal

pub returns-clause-outcome : goal.returns-clause-outcome
returns-clause-outcome c = one_dead_cell

pub returns-clause-log : goal.returns-clause-log
returns-clause-log c = same_dead
