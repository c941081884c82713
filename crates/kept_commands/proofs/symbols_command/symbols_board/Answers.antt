use Rattle.std.proofs.Common.{Ok, Err}
use Rattle.phases.specs.Failures.{of_report}
use Rattle.phases.specs.Output.{IsText}
use Rattle.phases.proofs.Left.{left_by}
use Rattle.phases.proofs.Outputs.{reworded, written_story}
use Rattle.kept_commands.specs.Symbols.{BoardSays, board_symbols}
use Rattle.kept_commands.proofs.BySymbols.{whole_board}
use Rattle.kept_commands.proofs.symbols_command.symbols_board.Goals as goal

pub returns-clause-output : goal.returns-clause-output
returns-clause-output g c =
    let b = c.args.opened.now.baseline in
    let board = c.args.opened.now.board in
    let symbols = c.args.symbols.now in
    let part = c.in_ok-write_board.ensures in
    let whole = whole_board b.case b.list board c.facts.ensures.jobs c.args.opened.now.long c.requires.whole in
    reworded g.O.Sink.tells g.O.Sink.tells g.O.Sink.taken g.O.Sink.faults (IsText (board_symbols b.case symbols board)) (BoardSays b.case symbols board) c.args.out.now c.write_board.new.out _
    (λ told. told)
    (λ told text is. record {
      text_is = is;
      functions = λ o. c.of_board.ensures.functions b.case board symbols o whole;
      objects = λ o. c.of_board.ensures.objects b.case board symbols o whole;
    })
    (written_story g.O.Sink.tells g.O.Sink.taken g.O.Sink.faults _ c.args.out.now c.write_board.new.out (Ok c.in_ok-write_board.field-0) part.bytes part.cause part.nothing)

pub returns-in_err-write_board-clause-output : goal.returns-in_err-write_board-clause-output
returns-in_err-write_board-clause-output g c =
    let b = c.args.opened.now.baseline in
    let board = c.args.opened.now.board in
    let symbols = c.args.symbols.now in
    let part = c.in_err-write_board.ensures in
    let refusal = c.in_err-write_board.field-0.0 in
    let whole = whole_board b.case b.list board c.facts.ensures.jobs c.args.opened.now.long c.requires.whole in
    rw (left_by c.from_residual.result (of_report refusal) c.from_residual.ensures.1)
    (reworded g.O.Sink.tells g.O.Sink.tells g.O.Sink.taken g.O.Sink.faults (IsText (board_symbols b.case symbols board)) (BoardSays b.case symbols board) c.args.out.now c.write_board.new.out _
    (λ told. told)
    (λ told text is. record {
      text_is = is;
      functions = λ o. c.of_board.ensures.functions b.case board symbols o whole;
      objects = λ o. c.of_board.ensures.objects b.case board symbols o whole;
    })
    (written_story g.O.Sink.tells g.O.Sink.taken g.O.Sink.faults _ c.args.out.now c.write_board.new.out (Err refusal) part.bytes part.cause part.nothing))
