use Rattle.dead_cells.proofs.Known.{dead_outcome}
use Rattle.dead_cells.proofs.laws.dead_cells.Goals as goal

pub returns : goal.returns
returns c = record { outcome = dead_outcome }
