use Rattle.dead_cells.proofs.Rounds.{rounds_go_on}
use Rattle.dead_cells.proofs.laws.rounds.Goals as goal

pub returns : goal.returns
returns c = record { go_on = rounds_go_on }
