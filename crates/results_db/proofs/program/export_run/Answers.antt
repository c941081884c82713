use Rattle.std.proofs.Common.{refl, map, arith}
use Rattle.std.specs.Prelude.{string_bytes}
use Rattle.fs_outside.specs.Past.{content}
use Rattle.phases.specs.Failures.{status_of}
use Rattle.kept_commands.proofs.OneAnswer.{answers}
use Rattle.results_db.specs.Export.{export_call}
use Rattle.results_db.proofs.program.export_run.Goals as goal

pub returns : goal.returns
returns g c =
    let ran = c.export_words-answer.ensures in
    let is = c.of-status.ensures in
    let call = export_call (map string_bytes c.args.words.now) (g.S.Source.left c.args.image.now) (content (g.D.Disk.past c.args.disk.now)) in
    rw is (record {
      exported = ran.exported;
      complete = λ told disk expected own cause no_read no_keep no_store no_write.
          answers g.D.Disk.tells (Unit {0}) call ((λ _. disk), (λ _. tt)) _ _ _ _ 0 0 _ _ _ _ (status_of c.export_words-answer.result) (ran.exported.cause told) ran.reads ran.keeps (rw ran.no_other refl) ran.stores ran.writes
          expected own cause no_read no_keep (record { same = refl; room = omega arith }) no_store no_write;
      reads = ran.reads;
      keeps = ran.keeps;
      stores = ran.stores;
      writes = ran.writes;
      others = ran.others;
      nothing = ran.nothing;
      untouched = ran.untouched;
      disk = ran.disk;
      told = rw is at c.tell_export.ensures.told;
      told_part = rw is at c.tell_export.ensures.part;
    })
