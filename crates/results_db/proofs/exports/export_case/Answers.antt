use Rattle.std.proofs.Common.{ap, length, refl}
use Rattle.fs_outside.specs.Past.{content}
use Rattle.fs_model.specs.Case.{CaseData}
use Rattle.fs_model.specs.Job.{jobs_in}
use Rattle.phases.specs.Failures.{status_for, status_of}
use Rattle.phases.proofs.Left.{left_by}
use Rattle.phases.proofs.Outputs.{said_so, silent_story}
use Rattle.kept_commands.proofs.FileEnds.{unopened_silent}
use Rattle.results_db.specs.Rows.{exported_text}
use Rattle.results_db.proofs.Ends.{from_board, from_unopened, in_file, unopened_stores, unstored_story}
use Rattle.results_db.proofs.exports.export_case.Goals as goal

pub returns : goal.returns
returns g c =
    let case = c.args.case.now in
    let file = content (g.D.Disk.past c.args.disk.now) in
    let opened = c.in_ok-opened.ensures in
    let board = c.in_ok-opened.opened.board in
    let whole = c.export_board-answer.ensures in
    let answer = status_of c.export_board-answer.result in
    record {
      cause = from_board g.D.Disk.tells file case board answer opened.halts opened.board whole.cause;
      store = in_file g.D.Disk.tells g.W.RowStore.tells g.W.RowStore.rows g.W.RowStore.faults file case c.in_ok-opened.opened.baseline.case board c.args.store.now c.export_board-answer.new.store answer
          opened.same opened.board whole.store;
      output = said_so g.O.Sink.tells g.O.Sink.taken g.O.Sink.faults _ _ c.args.out.now c.export_board-answer.new.out answer
          (ap (λ (b : CaseData). exported_text (length (jobs_in b))) opened.same) whole.output;
      keeps = rw whole.keeps opened.keeps;
      read = c.look_at.ensures.read;
    }

pub returns-in_err-opened : goal.returns-in_err-opened
returns-in_err-opened g c =
    let case = c.args.case.now in
    let file = content (g.D.Disk.past c.args.disk.now) in
    let answer = status_for c.in_err-opened.field-0.0 in
    let why = c.in_err-opened.ensures.refused in
    let silent = unopened_silent g.D.Disk.tells file case answer why in
    rw (left_by c.from_residual.result c.in_err-opened.field-0.0 c.from_residual.ensures.1)
    (record {
      cause = from_unopened g.D.Disk.tells file case answer why;
      store = unstored_story _ _ g.W.RowStore.rows g.W.RowStore.faults _ c.args.store.now c.args.store.now answer silent (λ told. refl) (rw (unopened_stores g.D.Disk.tells file case answer why) refl);
      output = silent_story _ g.O.Sink.taken g.O.Sink.faults _ c.args.out.now answer silent;
      keeps = c.in_err-opened.ensures.keeps;
      read = c.look_at.ensures.read;
    })
