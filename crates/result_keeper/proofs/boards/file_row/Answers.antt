use Rattle.std.proofs.Common.{sym, ◌∙◌}
use Rattle.fs_model.specs.Verdict.{site_of_row}
use Rattle.result_keeper.proofs.Filing.{one_named, none_named, filed_number, filed_none, kept_more}
use Rattle.result_keeper.proofs.boards.file_row.Goals as goal

pub returns-in-Some-clause-named : goal.returns-in-Some-clause-named
returns-in-Some-clause-named c = sym (one_named c.args.walk.now.list (site_of_row c.args.row) c.in-Some.number c.in-Some.ensures.number)

pub returns-in-Some-clause-board : goal.returns-in-Some-clause-board
returns-in-Some-clause-board c = c.put.ensures.board ∙ filed_number c.args.walk.now.list c.args.board.now c.args.row c.in-Some.number c.requires.long c.requires.once c.in-Some.ensures.number

pub returns-in-Some-clause-kept : goal.returns-in-Some-clause-kept
returns-in-Some-clause-kept c =
    λ blank. kept_more c.args.walk.now.list c.args.board.now c.put.new.self c.args.row c.in-Some.number c.requires.once c.in-Some.ensures.number c.put.ensures.board blank

pub returns-in-None-clause-named : goal.returns-in-None-clause-named
returns-in-None-clause-named c = sym (none_named c.args.walk.now.list (site_of_row c.args.row) c.in-None.ensures.number)

pub returns-in-None-clause-board : goal.returns-in-None-clause-board
returns-in-None-clause-board c = filed_none c.args.walk.now.list c.args.board.now c.args.row c.requires.long c.in-None.ensures.number
