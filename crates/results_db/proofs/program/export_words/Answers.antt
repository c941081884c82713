use Rattle.std.proofs.Common.{◌≡◌, ℕ, List, ◌++◌, ap, inl, inr, map, refl, subst}
use Rattle.std.specs.Prelude.{option_map, string_bytes}
use Rattle.fs_outside.specs.Past.{content}
use Rattle.fs_outside.specs.Writing.{TookPart}
use Rattle.command_line.specs.Line.{case_of}
use Rattle.phases.specs.declared.status.Status.TheVariants as status
use Rattle.phases.specs.Failures.{status_for, status_of}
use Rattle.phases.specs.Status.{IsImageStatus}
use Rattle.phases.proofs.Left.{left_by}
use Rattle.phases.proofs.Outputs.{image_keeps, image_others, image_silent, image_stores, image_writes}
use Rattle.kept_commands.proofs.OneAnswer.{no_line, of_image}
use Rattle.results_db.specs.Export.{asks, export_call}
use Rattle.results_db.specs.Stories.{IsExportCause}
use Rattle.results_db.proofs.Caused.{exports, exports_truly, loads, of_export, unexported}
use Rattle.results_db.proofs.Ends.{export_others, export_reads, export_usage}
use Rattle.results_db.proofs.program.export_words.Goals as goal

pub returns : goal.returns
returns g c =
    let words = map string_bytes c.args.words.now in
    let image = g.S.Source.left c.args.image.now in
    let file = content (g.D.Disk.past c.args.disk.now) in
    let call = export_call words image file in
    let said = c.in-Ok.ensures.ok in
    let case = c.in_ok-loaded.loaded.case in
    let answer = status_of c.export_case-answer.result in
    let line_is = ap (option_map asks) said in
    let loaded = c.in_ok-loaded.ensures in
    let ran = c.export_case-answer.ensures in
    record {
      exported = record {
        cause = λ told. of_export words image file (case_of c.in-Ok.case) case said (loaded.loads told) g.D.Disk.tells answer ran.cause;
        usage = λ is. absurd (export_usage g.D.Disk.tells file case (subst (IsExportCause g.D.Disk.tells file case) is ran.cause));
        no_line = λ none. absurd (no_line call.said (asks (case_of c.in-Ok.case)) none line_is);
        rows = λ told disk store stored. exports words image file (case_of c.in-Ok.case) case said (loaded.loads told) _ (ran.store.whole disk store stored);
        right = λ told disk store stored trusts. exports_truly words image file (case_of c.in-Ok.case) case said (loaded.loads told) _
            (trusts case (loads words image file (case_of c.in-Ok.case) case said (loaded.loads told))) (ran.store.whole disk store stored);
        said = λ told taken done.
            let wrote = ran.output.whole taken done in
            record { case = case; loads = loads words image file (case_of c.in-Ok.case) case said (loaded.loads told); written = subst (λ (text : List ℕ). g.O.Sink.taken c.export_case-answer.new.out ≡ g.O.Sink.taken c.args.out.now ++ text) wrote.says wrote.written };
        part = λ told taken failed.
            let wrote = ran.output.part taken failed in
            record { case = case; loads = loads words image file (case_of c.in-Ok.case) case said (loaded.loads told); written = subst (TookPart (g.O.Sink.taken c.args.out.now) (g.O.Sink.taken c.export_case-answer.new.out)) wrote.says wrote.written };
      };
      others = λ store. ran.store.kept store;
      no_other = export_others g.D.Disk.tells file case answer ran.cause;
      untouched = λ none. absurd (no_line call.said (asks (case_of c.in-Ok.case)) none line_is);
      nothing = ran.output.nothing;
      reads = rw (export_reads g.D.Disk.tells file case answer ran.cause) loaded.faults;
      keeps = ran.keeps;
      stores = ran.store.cause;
      writes = ran.output.cause;
      disk = ran.read;
    }

pub returns-in_err-loaded : goal.returns-in_err-loaded
returns-in_err-loaded g c =
    let call = export_call (map string_bytes c.args.words.now) (g.S.Source.left c.args.image.now) (content (g.D.Disk.past c.args.disk.now)) in
    let refused = c.in_err-loaded.ensures in
    let answer = status_for c.in_err-loaded.field-0.0 in
    let line_is = ap (option_map asks) c.in-Ok.ensures.ok in
    rw (left_by c.from_residual.result c.in_err-loaded.field-0.0 c.from_residual.ensures.1)
    (record {
      exported = unexported g.S.Source.tells g.D.Disk.tells g.W.RowStore.tells g.O.Sink.tells call _ _ _ answer (image_silent answer refused.of_image)
          (λ told. of_image g.D.Disk.tells (Unit {0}) call (asks (case_of c.in-Ok.case)) answer line_is (refused.refused told))
          (λ is. absurd (subst IsImageStatus is refused.of_image))
          (λ none. absurd (no_line call.said (asks (case_of c.in-Ok.case)) none line_is));
      others = λ store not_done not_failed. refl;
      no_other = image_others answer refused.of_image;
      untouched = λ none. absurd (no_line call.said (asks (case_of c.in-Ok.case)) none line_is);
      nothing = λ not_done not_failed. refl;
      reads = refused.faults;
      keeps = rw (image_keeps answer refused.of_image) refl;
      stores = rw (image_stores answer refused.of_image) refl;
      writes = rw (image_writes answer refused.of_image) refl;
      disk = λ told. refl;
    })

pub returns-in-Err-Usage : goal.returns-in-Err-Usage
returns-in-Err-Usage g c =
    let call = export_call (map string_bytes c.args.words.now) (g.S.Source.left c.args.image.now) (content (g.D.Disk.past c.args.disk.now)) in
    record {
      exported = unexported g.S.Source.tells g.D.Disk.tells g.W.RowStore.tells g.O.Sink.tells call _ _ _ status.Usage tt
          (λ told. ap (option_map asks) (c.in-Err-Usage.ensures.usage (cc))) (λ is. ap (option_map asks) (c.in-Err-Usage.ensures.usage (cc))) (λ none. inl refl);
      others = λ store not_done not_failed. refl;
      no_other = refl;
      untouched = λ none. (refl, (refl, refl));
      nothing = λ not_done not_failed. refl;
      reads = refl;
      keeps = refl;
      stores = refl;
      writes = refl;
      disk = λ told. refl;
    }

pub returns-in-Err-NoMemory : goal.returns-in-Err-NoMemory
returns-in-Err-NoMemory g c =
    let call = export_call (map string_bytes c.args.words.now) (g.S.Source.left c.args.image.now) (content (g.D.Disk.past c.args.disk.now)) in
    record {
      exported = unexported g.S.Source.tells g.D.Disk.tells g.W.RowStore.tells g.O.Sink.tells call _ _ _ status.NoMemory tt
          (λ told. tt) (λ is. absurd (cc)) (λ none. inr refl);
      others = λ store not_done not_failed. refl;
      no_other = refl;
      untouched = λ none. (refl, (refl, refl));
      nothing = λ not_done not_failed. refl;
      reads = refl;
      keeps = refl;
      stores = refl;
      writes = refl;
      disk = λ told. refl;
    }
