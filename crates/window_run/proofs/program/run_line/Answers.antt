use Rattle.std.proofs.Common.{◌≡◌, List, ℕ, Ok, ap, refl, sym, subst, ◌∙◌}
use Rattle.fs_outside.specs.Past.{content}
use Rattle.command_line.specs.Window.{window_data}
use Rattle.phases.specs.Failures.{status_for}
use Rattle.phases.proofs.Outputs.{image_keeps, image_writes}
use Rattle.window_run.specs.Causes.{IsPartCause, symbols_named}
use Rattle.window_run.proofs.Called.{call_story, counts_part, loads, no_image, no_symbols, of_part, some_line, symbols_image, symbols_reads}
use Rattle.window_run.proofs.PartEndings.{part_reads, part_usage}
use Rattle.window_run.proofs.program.run_line.Goals as goal

pub returns-in-Ok-symbols_of : goal.returns-in-Ok-symbols_of
returns-in-Ok-symbols_of g c =
    let line = window_data c.args.line.now in
    let image = g.S.Source.left c.args.image.now in
    let old = g.D.Disk.past c.args.disk.now in
    let new = g.D.Disk.past c.run_part.new.disk in
    let file = content old in
    let case = c.in-Ok.loaded.case in
    let symbols = c.deref.result.now in
    let answer = c.run_part.result in
    let ran = c.run_part.ensures in
    let loaded = c.in-Ok.ensures in
    let are = λ (told : g.S.Source.tells).
    subst (λ (bytes : List ℕ). symbols_named line.part.function bytes ≡ Ok c.in-Ok-symbols_of.symbols.items) (c.as_slice.ensures.value ∙ loaded.bytes told) c.in-Ok-symbols_of.ensures.ok
    ∙ ap Ok (sym c.deref.ensures.value) in
    record {
      run = record {
        cause = λ told. of_part line image file symbols case g.D.Disk.tells answer (loaded.loads told) (are told) ran.cause;
        usage = λ is. absurd (part_usage line symbols case g.D.Disk.tells file (subst (IsPartCause g.D.Disk.tells line symbols file case) is ran.cause));
        no_line = λ none. some_line line image file none;
        counts = λ told disk out done trusts. counts_part line image file symbols case _ _ (loaded.loads told) (are told) (ran.output.whole disk out done) trusts;
        report = λ told disk out done. record { case = case; loads = loads line image file symbols case (loaded.loads told) (are told); wrote = ran.output.whole disk out done };
        part = λ told disk out failed. record { case = case; loads = loads line image file symbols case (loaded.loads told) (are told); wrote = ran.output.part disk out failed };
        story = λ disk. call_story line image file symbols case g.S.Source.tells old new answer loaded.loads are (ran.story disk);
      };
      nothing = ran.output.nothing;
      reads = rw (part_reads line symbols case g.D.Disk.tells file answer ran.cause) loaded.faults;
      keeps = ran.keeps;
      writes = ran.output.cause;
    }

pub returns-in-Err : goal.returns-in-Err
returns-in-Err g c =
    let line = window_data c.args.line.now in
    let image = g.S.Source.left c.args.image.now in
    let refused = c.in-Err.ensures in
    let answer = status_for c.in-Err.failure in
    rw c.status.ensures (record {
      run = no_image line image (content (g.D.Disk.past c.args.disk.now)) g.S.Source.tells g.D.Disk.tells g.O.Sink.tells _ _ answer refused.of_image refused.refused;
      nothing = λ not_done not_failed. refl;
      reads = refused.faults;
      keeps = rw (image_keeps answer refused.of_image) refl;
      writes = rw (image_writes answer refused.of_image) refl;
    })

pub returns : goal.returns
returns g c =
    let line = window_data c.args.line.now in
    let image = g.S.Source.left c.args.image.now in
    let loaded = c.in-Ok.ensures in
    let answer = status_for c.in-Err-symbols_of.failure in
    let why = c.in-Err-symbols_of.ensures.refused in
    let is = symbols_image line.part.function c.as_slice.result.now answer why in
    rw c.status-in-Err-symbols_of.ensures (record {
      run = no_symbols line image (content (g.D.Disk.past c.args.disk.now)) g.S.Source.tells g.D.Disk.tells g.O.Sink.tells c.as_slice.result.now c.in-Ok.loaded.case _ _ answer why
          loaded.loads (λ told. c.as_slice.ensures.value ∙ loaded.bytes told);
      nothing = λ not_done not_failed. refl;
      reads = rw (symbols_reads line.part.function c.as_slice.result.now answer why) loaded.faults;
      keeps = rw (image_keeps answer is) refl;
      writes = rw (image_writes answer is) refl;
    })
