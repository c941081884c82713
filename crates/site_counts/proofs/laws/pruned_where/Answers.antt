use Rattle.site_counts.proofs.Passing.{pruned_where, pruned_board, spread_is_right, live_line, dead_line}
use Rattle.site_counts.proofs.laws.pruned_where.Goals as goal

pub returns-clause-of_case : goal.returns-clause-of_case
returns-clause-of_case c = pruned_where

pub returns-clause-of_board : goal.returns-clause-of_board
returns-clause-of_board c = pruned_board

pub returns-clause-right : goal.returns-clause-right
returns-clause-right c = spread_is_right

pub returns-clause-live : goal.returns-clause-live
returns-clause-live c = live_line

pub returns-clause-dead : goal.returns-clause-dead
returns-clause-dead c = dead_line
