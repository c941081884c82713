use Rattle.std.proofs.Common.{refl, map, arith}
use Rattle.std.specs.Prelude.{string_bytes}
use Rattle.fs_outside.specs.Past.{content}
use Rattle.phases.specs.Failures.{status_of}
use Rattle.kept_commands.specs.Call.{call_of}
use Rattle.kept_commands.proofs.OneAnswer.{answers}
use Rattle.fail_cli.proofs.program.fail_run.Goals as goal

-- one answer, which ends at its first field that is not so
pub returns : goal.returns
returns g c =
    let ran = c.run_line-answer.ensures in
    let is = c.of-status.ensures in
    let call = call_of (map string_bytes c.args.words.now) (g.S.Source.left c.args.image.now) (content (g.D.Disk.past c.args.disk.now)) (g.T.Source.left c.args.second.now) in
    rw is (record {
      answered = ran.answered;
      complete = λ told tell expected own cause no_read no_keep no_other no_write.
          answers g.D.Disk.tells g.T.Source.tells call tell _ _ _ _ _ _ 0 0 _ _ (status_of c.run_line-answer.result) (ran.answered.cause told) ran.reads ran.keeps ran.others (rw ran.stores refl) ran.writes
          expected own cause no_read no_keep no_other (record { same = refl; room = omega arith }) no_write;
      reads = ran.reads;
      writes = ran.writes;
      keeps = ran.keeps;
      others = ran.others;
      stores = ran.stores;
      nothing = ran.nothing;
      told = rw is at c.tell_status.ensures.told;
      told_part = rw is at c.tell_status.ensures.part;
      no_image = ran.no_image;
      disk = ran.disk;
      second = ran.second;
    })
