use Rattle.std.proofs.Common.{ap, ◌∙◌}
use Rattle.fs_outside.specs.Past.{content}
use Rattle.fs_model.specs.Case.{CaseData}
use Rattle.answer_pages.specs.Text.{answers_text}
use Rattle.phases.specs.Failures.{status_for, status_of}
use Rattle.phases.proofs.Left.{left_by}
use Rattle.phases.proofs.Outputs.{writing_keeps}
use Rattle.answers_run.specs.AnswersStory.{IsAnswersOf}
use Rattle.answers_run.proofs.Called.{from_board, from_unopened, unopened_is_silent}
use Rattle.answers_run.proofs.Stories.{reworded_answers, silent_answers}
use Rattle.answers_run.proofs.answering.answer_case.Goals as goal

pub returns : goal.returns
returns g c =
    let case = c.args.case.now in
    let file = content (g.D.Disk.past c.args.disk.now) in
    let chosen = c.args.line.now.chosen.items in
    let opened = c.in_ok-opened.ensures in
    let board = c.in_ok-opened.opened.board in
    let whole = c.answer_board-answer.ensures in
    let answer = status_of c.answer_board-answer.result in
    record {
      cause = from_board g.D.Disk.tells file case board answer opened.halts opened.board whole.ends;
      output = reworded_answers _ _ g.O.Sink.taken g.O.Sink.faults _ (IsAnswersOf file case chosen) c.args.out.now c.answer_board-answer.new.out answer
          (λ told. told.1)
          (λ told text is. record { board = board; opened = opened.board told.0; text_is = is ∙ ap (λ (b : CaseData). answers_text b board chosen) opened.same })
          whole.output;
      keeps = rw (writing_keeps answer whole.ends) opened.keeps;
      read = c.look_at.ensures.read;
    }

pub returns-in_err-opened : goal.returns-in_err-opened
returns-in_err-opened g c =
    let file = content (g.D.Disk.past c.args.disk.now) in
    let answer = status_for c.in_err-opened.field-0.0 in
    let why = c.in_err-opened.ensures.refused in
    rw (left_by c.from_residual.result c.in_err-opened.field-0.0 c.from_residual.ensures.1)
    (record {
      cause = from_unopened g.D.Disk.tells file c.args.case.now answer why;
      output = silent_answers _ g.O.Sink.taken g.O.Sink.faults _ c.args.out.now answer (unopened_is_silent g.D.Disk.tells file c.args.case.now answer why);
      keeps = c.in_err-opened.ensures.keeps;
      read = c.look_at.ensures.read;
    })
