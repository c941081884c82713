use Rattle.std.proofs.Common.{false, subst}
use Rattle.fs_outside.specs.Past.{content}
use Rattle.fs_model.specs.Case.{CaseData}
use Rattle.phases.specs.Failures.{status_for, status_of}
use Rattle.phases.proofs.Left.{left_by}
use Rattle.phases.proofs.Outputs.{reworded, silent_story, writing_keeps}
use Rattle.kept_commands.specs.Symbols.{BoardSays, SymbolsSays}
use Rattle.kept_commands.specs.Run.{no_job}
use Rattle.kept_commands.proofs.FileEnds.{keep_cause, unfinished_ends, unfinished_keeps, unfinished_silent, unopened_cause, unopened_silent, whole_ends}
use Rattle.kept_commands.proofs.symbols_command.symbols.Goals as goal

pub returns-in-Ok : goal.returns-in-Ok
returns-in-Ok g c =
    let case = c.args.case.now in
    let file = content (g.D.Disk.past c.args.disk.now) in
    let opened = c.in_ok-opened.ensures in
    let board = c.in_ok-opened.opened.board in
    let whole = c.symbols_board-answer.ensures in
    let answer = status_of c.symbols_board-answer.result in
    let ends = whole_ends board answer c.in-Ok.ensures.whole whole.ends in
    record {
      cause = keep_cause g.D.Disk.tells false no_job file case board answer opened.halts opened.board ends;
      output = reworded _ _ g.O.Sink.taken g.O.Sink.faults _ (SymbolsSays c.args.symbols.now file case) c.args.out.now c.symbols_board-answer.new.out answer
          (λ told. told.1) (λ told text says. (board, opened.board told.0, subst (λ (b : CaseData). BoardSays b c.args.symbols.now board text) opened.same says)) whole.output;
      keeps = rw (writing_keeps answer whole.ends) opened.keeps;
      read = c.look_at.ensures.read;
    }

pub returns-in_err-opened : goal.returns-in_err-opened
returns-in_err-opened g c =
    let file = content (g.D.Disk.past c.args.disk.now) in
    let answer = status_for c.in_err-opened.field-0.0 in
    let why = c.in_err-opened.ensures.refused in
    rw (left_by c.from_residual.result c.in_err-opened.field-0.0 c.from_residual.ensures.1)
    (record {
      cause = unopened_cause g.D.Disk.tells no_job file c.args.case.now answer why;
      output = silent_story _ g.O.Sink.taken g.O.Sink.faults _ c.args.out.now answer (unopened_silent g.D.Disk.tells file c.args.case.now answer why);
      keeps = c.in_err-opened.ensures.keeps;
      read = c.look_at.ensures.read;
    })

pub returns-in-Err : goal.returns-in-Err
returns-in-Err g c =
    let case = c.args.case.now in
    let file = content (g.D.Disk.past c.args.disk.now) in
    let opened = c.in_ok-opened.ensures in
    let board = c.in_ok-opened.opened.board in
    let answer = status_for c.in-Err.failure in
    let why = c.in-Err.ensures.unfinished in
    record {
      cause = keep_cause g.D.Disk.tells false no_job file case board answer opened.halts opened.board (unfinished_ends board answer why);
      output = silent_story _ g.O.Sink.taken g.O.Sink.faults _ c.args.out.now answer (unfinished_silent board answer why);
      keeps = rw (unfinished_keeps board answer why) opened.keeps;
      read = c.look_at.ensures.read;
    }
