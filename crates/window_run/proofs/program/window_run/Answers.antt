use Rattle.std.proofs.Common.{inl, inr, map, refl, sym, ◌∙◌}
use Rattle.std.specs.Prelude.{string_bytes}
use Rattle.fs_outside.specs.Past.{content}
use Rattle.command_line.specs.Window.{window_data}
use Rattle.phases.specs.declared.status.Status.TheVariants as status
use Rattle.window_run.specs.Call.{loaded_call, window_call}
use Rattle.window_run.proofs.Called.{some_line, unrun}
use Rattle.window_run.proofs.OneCause.{answers, told_cause}
use Rattle.window_run.proofs.program.window_run.Goals as goal

pub returns-in-Ok : goal.returns-in-Ok
returns-in-Ok g c =
    let line = window_data c.in-Ok.line in
    let image = g.S.Source.left c.args.image.now in
    let file = content (g.D.Disk.past c.args.disk.now) in
    let call = loaded_call line image file in
    let ran = c.run_line-status.ensures in
    let name = c.function_named.ensures in
    rw c.in-Ok.ensures.ok (record {
      run = ran.run;
      complete = λ told disk expected own cause no_read no_keep no_write.
          answers call _ _ _ _ _ _ c.run_line-status.result (told_cause g.D.Disk.tells call c.run_line-status.result disk (ran.run.cause told)) ran.reads ran.keeps ran.writes
          expected own (told_cause g.D.Disk.tells call expected disk cause) no_read no_keep no_write;
      reads = ran.reads;
      keeps = ran.keeps;
      writes = ran.writes;
      nothing = ran.nothing;
      told = rw name at c.tell_window.ensures.told;
      told_part = rw name at c.tell_window.ensures.part;
      untouched = λ none. some_line line image file none;
    })

pub returns-in-Err-Usage : goal.returns-in-Err-Usage
returns-in-Err-Usage g c =
    let image = g.S.Source.left c.args.image.now in
    let file = content (g.D.Disk.past c.args.disk.now) in
    let call = window_call (map string_bytes c.args.words.now) image file in
    let none = c.in-Err-Usage.ensures.usage (cc) in
    rw none (record {
      run = unrun g.S.Source.tells g.D.Disk.tells g.O.Sink.tells _ _ _ status.Usage tt (λ told. refl) (λ is. refl) (λ no. inl refl) tt;
      complete = λ told disk expected own cause no_read no_keep no_write.
          answers _ _ _ _ _ _ _ _ refl refl refl refl expected own (told_cause g.D.Disk.tells _ expected disk cause) no_read no_keep no_write;
      reads = refl;
      keeps = refl;
      writes = refl;
      nothing = λ not_done not_failed. refl;
      told = c.tell_window-in-Err-Usage.ensures.told;
      told_part = c.tell_window-in-Err-Usage.ensures.part;
      untouched = λ no. (refl, (refl, refl));
    })

pub returns-in-Err-NoMemory : goal.returns-in-Err-NoMemory
returns-in-Err-NoMemory g c =
    record {
      run = unrun g.S.Source.tells g.D.Disk.tells g.O.Sink.tells _ _ _ status.NoMemory tt (λ told. tt) (λ is. absurd (cc)) (λ none. inr refl) (inl refl);
      complete = λ told disk expected own cause no_read no_keep no_write. inr refl;
      reads = refl;
      keeps = refl;
      writes = refl;
      nothing = λ not_done not_failed. refl;
      told = c.tell_window-in-Err-NoMemory.ensures.told;
      told_part = c.tell_window-in-Err-NoMemory.ensures.part;
      untouched = λ none. (refl, (refl, refl));
    }
