use Rattle.std.proofs.Common.{inl, inr, map, refl, subst}
use Rattle.std.specs.Prelude.{string_bytes}
use Rattle.command_line.specs.Answers.{answers_data}
use Rattle.fs_outside.specs.Past.{content}
use Rattle.phases.specs.declared.status.Status.TheVariants as status
use Rattle.phases.specs.Failures.{status_for, status_of}
use Rattle.phases.specs.Status.{IsImageStatus}
use Rattle.phases.proofs.Left.{left_by}
use Rattle.phases.proofs.Outputs.{image_keeps, image_silent, image_writes}
use Rattle.answers_run.specs.Answered.{AsksForText}
use Rattle.answers_run.specs.AnswersCall.{answers_call}
use Rattle.answers_run.specs.AnswersCauses.{IsAnswersEnd}
use Rattle.answers_run.proofs.Called.{asks_for, case_cause, end_reads, end_usage, image_cause, some_line, unanswered}
use Rattle.answers_run.proofs.Stories.{rewrote, rewrote_part, rewrote_short}
use Rattle.answers_run.proofs.program.answer_words.Goals as goal

pub returns : goal.returns
returns g c =
    let file = content (g.D.Disk.past c.args.disk.now) in
    let call = answers_call (map string_bytes c.args.words.now) (g.S.Source.left c.args.image.now) file in
    let line = answers_data c.in-Ok.line in
    let line_is = c.in-Ok.ensures.ok in
    let case = c.in_ok-loaded.loaded.case in
    let answer = status_of c.answer_case-answer.result in
    let loaded = c.in_ok-loaded.ensures in
    let ran = c.answer_case-answer.ensures in
    record {
      answered = record {
        cause = λ told. case_cause call line line_is case (loaded.loads told) g.D.Disk.tells answer ran.cause;
        usage = λ is. absurd (end_usage g.D.Disk.tells file case (subst (IsAnswersEnd g.D.Disk.tells file case) is ran.cause));
        no_line = λ none. absurd (some_line call line line_is none);
        said = λ told disk out done. rewrote _ (AsksForText call) (asks_for call line line_is case (loaded.loads told)) _ _ (ran.output.whole (disk, out) done);
        part = λ told disk out failed. rewrote_part _ (AsksForText call) (asks_for call line line_is case (loaded.loads told)) _ _ (ran.output.part (disk, out) failed);
        short = λ told disk out short. rewrote_short _ (AsksForText call) (asks_for call line line_is case (loaded.loads told)) _ _ (ran.output.short (disk, out) short);
      };
      untouched = λ none. absurd (some_line call line line_is none);
      nothing = ran.output.nothing;
      reads = rw (end_reads g.D.Disk.tells file case answer ran.cause) loaded.faults;
      keeps = ran.keeps;
      writes = ran.output.cause;
      disk = ran.read;
    }

pub returns-in_err-loaded : goal.returns-in_err-loaded
returns-in_err-loaded g c =
    let call = answers_call (map string_bytes c.args.words.now) (g.S.Source.left c.args.image.now) (content (g.D.Disk.past c.args.disk.now)) in
    let line = answers_data c.in-Ok.line in
    let line_is = c.in-Ok.ensures.ok in
    let refused = c.in_err-loaded.ensures in
    let answer = status_for c.in_err-loaded.field-0.0 in
    rw (left_by c.from_residual.result c.in_err-loaded.field-0.0 c.from_residual.ensures.1)
    (record {
      answered = unanswered g.S.Source.tells g.D.Disk.tells g.O.Sink.tells call _ answer (image_silent answer refused.of_image)
          (λ told. image_cause call line line_is g.D.Disk.tells answer (refused.refused told))
          (λ is. absurd (subst IsImageStatus is refused.of_image))
          (λ none. absurd (some_line call line line_is none));
      untouched = λ none. absurd (some_line call line line_is none);
      nothing = λ not_done not_failed not_short. refl;
      reads = refused.faults;
      keeps = rw (image_keeps answer refused.of_image) refl;
      writes = rw (image_writes answer refused.of_image) refl;
      disk = λ told. refl;
    })

pub returns-in-Err-Usage : goal.returns-in-Err-Usage
returns-in-Err-Usage g c =
    let call = answers_call (map string_bytes c.args.words.now) (g.S.Source.left c.args.image.now) (content (g.D.Disk.past c.args.disk.now)) in
    let none = c.in-Err-Usage.ensures.usage (cc) in
    record {
      answered = unanswered g.S.Source.tells g.D.Disk.tells g.O.Sink.tells call _ status.Usage tt (λ told. none) (λ is. none) (λ no. inl refl);
      untouched = λ no. (refl, refl);
      nothing = λ not_done not_failed not_short. refl;
      reads = refl;
      keeps = refl;
      writes = refl;
      disk = λ told. refl;
    }

pub returns-in-Err-NoMemory : goal.returns-in-Err-NoMemory
returns-in-Err-NoMemory g c =
    let call = answers_call (map string_bytes c.args.words.now) (g.S.Source.left c.args.image.now) (content (g.D.Disk.past c.args.disk.now)) in
    record {
      answered = unanswered g.S.Source.tells g.D.Disk.tells g.O.Sink.tells call _ status.NoMemory tt (λ told. tt) (λ is. absurd (cc)) (λ none. inr refl);
      untouched = λ none. (refl, refl);
      nothing = λ not_done not_failed not_short. refl;
      reads = refl;
      keeps = refl;
      writes = refl;
      disk = λ told. refl;
    }
