use Rattle.std.specs.Prelude.{Some}
use Rattle.keep_format.proofs.Ascending.{front_ascends}
use Rattle.keep_format.proofs.fronts.Front.new.Goals as goal

pub returns-clause-ascends : goal.returns-clause-ascends
returns-clause-ascends c = front_ascends (Some c.args.first) c.args.rows
