use Rattle.window_counts.proofs.AddUp.{windows_add_up, all_cycles}
use Rattle.window_counts.proofs.laws.windows_add_up.Goals as goal

pub returns-clause-tiles : goal.returns-clause-tiles
returns-clause-tiles c = windows_add_up

pub returns-clause-all : goal.returns-clause-all
returns-clause-all c = all_cycles
