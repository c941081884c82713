use Rattle.result_keeper.proofs.Settled.{blank_new}
use Rattle.result_keeper.proofs.keeper.take_memory.Goals as goal

pub returns-clause-blank : goal.returns-clause-blank
returns-clause-blank c = blank_new c.args.list.now.list c.in_ok-blank.blank c.len.result c.len.ensures c.in_ok-blank.ensures
