use Rattle.kept_commands.proofs.RightRows.{rows_and_boards}
use Rattle.kept_commands.proofs.trust.rows_and_boards.Goals as goal

pub returns : goal.returns
returns c = rows_and_boards
