use Rattle.std.proofs.Common.{false, ap}
use Rattle.fs_outside.specs.Past.{content}
use Rattle.fs_model.specs.Case.{CaseData}
use Rattle.phases.specs.Reports.{kept_report}
use Rattle.phases.specs.Failures.{status_for, status_of}
use Rattle.phases.proofs.Left.{left_by}
use Rattle.phases.proofs.Outputs.{reworded, said_so, silent_story, writing_keeps}
use Rattle.kept_commands.specs.Keep.{ReportSays}
use Rattle.kept_commands.specs.Run.{no_job}
use Rattle.kept_commands.proofs.FileEnds.{keep_cause, unfinished_ends, unfinished_keeps, unfinished_silent, unopened_cause, unopened_silent, whole_ends}
use Rattle.kept_commands.proofs.report_command.report.Goals as goal

pub returns-in-Ok : goal.returns-in-Ok
returns-in-Ok g c =
    let case = c.args.case.now in
    let file = content (g.D.Disk.past c.args.disk.now) in
    let opened = c.in_ok-opened.ensures in
    let board = c.in_ok-opened.opened.board in
    let whole = c.report_board-answer.ensures in
    let answer = status_of c.report_board-answer.result in
    let ends = whole_ends board answer c.in-Ok.ensures.whole whole.ends in
    record {
      cause = keep_cause g.D.Disk.tells false no_job file case board answer opened.halts opened.board ends;
      output = reworded _ _ g.O.Sink.taken g.O.Sink.faults _ (ReportSays c.args.format false file case) c.args.out.now c.report_board-answer.new.out answer
          (λ told. told.1) (λ told text is. (board, opened.board told.0, is))
          (said_so g.O.Sink.tells g.O.Sink.taken g.O.Sink.faults _ (kept_report c.args.format case board) c.args.out.now c.report_board-answer.new.out answer
          (ap (λ (b : CaseData). kept_report c.args.format b board) opened.same) whole.output);
      keeps = rw (writing_keeps answer whole.ends) opened.keeps;
      read = c.look_at.ensures.read;
    }

pub returns-in_err-opened : goal.returns-in_err-opened
returns-in_err-opened g c =
    let file = content (g.D.Disk.past c.args.disk.now) in
    let answer = status_for c.in_err-opened.field-0.0 in
    let why = c.in_err-opened.ensures.refused in
    rw (left_by c.from_residual.result c.in_err-opened.field-0.0 c.from_residual.ensures.1)
    (record {
      cause = unopened_cause g.D.Disk.tells no_job file c.args.case.now answer why;
      output = silent_story _ g.O.Sink.taken g.O.Sink.faults _ c.args.out.now answer (unopened_silent g.D.Disk.tells file c.args.case.now answer why);
      keeps = c.in_err-opened.ensures.keeps;
      read = c.look_at.ensures.read;
    })

pub returns-in-Err : goal.returns-in-Err
returns-in-Err g c =
    let case = c.args.case.now in
    let file = content (g.D.Disk.past c.args.disk.now) in
    let opened = c.in_ok-opened.ensures in
    let board = c.in_ok-opened.opened.board in
    let answer = status_for c.in-Err.failure in
    let why = c.in-Err.ensures.unfinished in
    record {
      cause = keep_cause g.D.Disk.tells false no_job file case board answer opened.halts opened.board (unfinished_ends board answer why);
      output = silent_story _ g.O.Sink.taken g.O.Sink.faults _ c.args.out.now answer (unfinished_silent board answer why);
      keeps = rw (unfinished_keeps board answer why) opened.keeps;
      read = c.look_at.ensures.read;
    }
