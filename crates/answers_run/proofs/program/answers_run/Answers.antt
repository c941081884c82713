use Rattle.std.proofs.Common.{map}
use Rattle.std.specs.Prelude.{string_bytes}
use Rattle.fs_outside.specs.Past.{content}
use Rattle.phases.specs.Failures.{status_of}
use Rattle.answers_run.specs.AnswersCall.{answers_call}
use Rattle.answers_run.proofs.OneCause.{answers}
use Rattle.answers_run.proofs.program.answers_run.Goals as goal

pub returns : goal.returns
returns g c =
    let ran = c.answer_words-answer.ensures in
    let is = c.of-status.ensures in
    let call = answers_call (map string_bytes c.args.words.now) (g.S.Source.left c.args.image.now) (content (g.D.Disk.past c.args.disk.now)) in
    rw is (record {
      answered = ran.answered;
      complete = λ told disk expected own cause no_read no_keep no_write.
          answers g.D.Disk.tells disk call _ _ _ _ _ _ (status_of c.answer_words-answer.result) expected (ran.answered.cause told) ran.reads ran.keeps ran.writes
          own cause no_read no_keep no_write;
      reads = ran.reads;
      keeps = ran.keeps;
      writes = ran.writes;
      nothing = ran.nothing;
      untouched = ran.untouched;
      disk = ran.disk;
      told = rw is at c.tell_answers.ensures.told;
      told_part = rw is at c.tell_answers.ensures.part;
    })
