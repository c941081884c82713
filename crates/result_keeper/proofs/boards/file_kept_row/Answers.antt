use Rattle.std.proofs.Common.{◌≡◌, [], Option, None, sym, ap, ◌∙◌}
use Rattle.fs_model.specs.declared.outcomes.Outcome.{Outcome}
use Rattle.keep_format.specs.KeepFile.{file_row_of}
use Rattle.result_keeper.specs.Acceptance.{row_if, site_named}
use Rattle.result_keeper.specs.Boards.{filed}
use Rattle.result_keeper.proofs.Filing.{one_named, none_named, filed_number, filed_nothing}
use Rattle.result_keeper.proofs.KeptRows.{no_job}
use Rattle.result_keeper.proofs.boards.file_kept_row.Goals as goal

pub returns-in-Some-outcome-clause-named : goal.returns-in-Some-outcome-clause-named
returns-in-Some-outcome-clause-named c = sym (one_named c.args.walk.now.list (site_named (file_row_of c.args.kept)) c.in-Some.number c.in-Some.ensures.number)

pub returns-in-Some-outcome-clause-board : goal.returns-in-Some-outcome-clause-board
returns-in-Some-outcome-clause-board c =
    let list = c.args.walk.now.list in
    let board = c.args.board.now in
    c.put.ensures.board
    ∙ filed_number list board (record { cycle = c.args.kept.cycle; cell = c.args.kept.cell; bit = c.args.kept.bit; outcome = c.in-Some-outcome.outcome }) c.in-Some.number c.requires.long c.requires.once c.in-Some.ensures.number
    ∙ ap (λ (o : Option Outcome). filed list board (row_if (file_row_of c.args.kept) o [])) (sym c.in-Some-outcome.is)

pub returns-in_default-clause-named : goal.returns-in_default-clause-named
returns-in_default-clause-named c = sym (one_named c.args.walk.now.list (site_named (file_row_of c.args.kept)) c.in-Some.number c.in-Some.ensures.number)

pub returns-in_default-clause-board : goal.returns-in_default-clause-board
returns-in_default-clause-board c =
    let list = c.args.walk.now.list in
    let board = c.args.board.now in
    let none : c.args.kept.outcome ≡ None = cc in
    sym (filed_nothing list board c.requires.long)
    ∙ ap (λ (o : Option Outcome). filed list board (row_if (file_row_of c.args.kept) o [])) (sym none)

pub returns-in-None-clause-named : goal.returns-in-None-clause-named
returns-in-None-clause-named c = sym (none_named c.args.walk.now.list (site_named (file_row_of c.args.kept)) c.in-None.ensures.number)

pub returns-in-None-clause-board : goal.returns-in-None-clause-board
returns-in-None-clause-board c = no_job c.args.walk.now.list c.args.board.now (file_row_of c.args.kept) c.args.kept.outcome c.requires.long c.in-None.ensures.number
