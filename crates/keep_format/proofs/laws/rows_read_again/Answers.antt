use Rattle.keep_format.proofs.Heads.{rows_read_again_lem}
use Rattle.keep_format.proofs.laws.rows_read_again.Goals as goal

pub returns : goal.returns
returns c = rows_read_again_lem
