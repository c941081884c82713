use Rattle.result_keeper.proofs.Settled.{blank_new}
use Rattle.result_keeper.proofs.looking.look.Goals as goal

pub board_on-requires-clause-blank : goal.board_on-requires-clause-blank
board_on-requires-clause-blank g c = blank_new c.args.list.now.list c.in-Ok.blank c.len.result c.len.ensures c.in-Ok.ensures
