use Rattle.std.proofs.Common.{◌≡◌, List, ℕ, ◌∙◌, inl, inr, true, Ok, map, ap, refl, sym, subst}
use Rattle.std.specs.Prelude.{string_bytes}
use Rattle.fs_outside.specs.Past.{content}
use Rattle.command_line.specs.Request.{case_in, command_in, request_of}
use Rattle.command_line.specs.Commands.{names_image, names_keep, names_other}
use Rattle.phases.specs.Failures.{status_for, status_of}
use Rattle.phases.specs.Loading.{IsSymbolCause, image_bytes}
use Rattle.phases.specs.Status.{IsImageStatus}
use Rattle.phases.specs.declared.status.Status.TheVariants as status
use Rattle.phases.proofs.Left.{left_by}
use Rattle.phases.proofs.Outputs.{image_keeps, image_others, image_silent, image_stores, image_writes}
use Rattle.kept_commands.specs.Call.{call_of}
use Rattle.kept_commands.specs.Causes.{IsWorkCause}
use Rattle.kept_commands.specs.Words.{TellsFiles, TellsImage}
use Rattle.kept_commands.proofs.OneAnswer.{loaded_case, no_line, of_case, of_image, of_symbols, symbols_are}
use Rattle.fail_cli.proofs.Crashes.{image_union, no_image_story, no_line_story, no_symbols_story, of_merge, work_story}
use Rattle.fail_cli.proofs.Endings.{symbols_of_image, symbols_reads, work_reads, work_stores, work_usage}
use Rattle.fail_cli.proofs.AllCounts.{counts_by}
use Rattle.fail_cli.proofs.EachCommand.{run_counts, true_texts}
use Rattle.fail_cli.proofs.Reported.{reported, reported_part, unreported}
use Rattle.fail_cli.proofs.commands.run_line.Goals as goal

pub returns-in-Ok-symbols : goal.returns-in-Ok-symbols
returns-in-Ok-symbols g c =
    let old = g.D.Disk.past c.args.disk.now in
    let new = g.D.Disk.past c.run_case.new.disk in
    let call = call_of (map string_bytes c.args.words.now) (g.S.Source.left c.args.image.now) (content old) (g.T.Source.left c.args.second.now) in
    let settings = request_of c.in-Ok.request in
    let case = c.in_ok-loaded.loaded.case in
    let answer = status_of c.run_case.result in
    let line_is = c.in-Ok.ensures.ok in
    let loaded = c.in_ok-loaded.ensures in
    let ran = c.run_case.ensures in
    let symbols = c.deref.result.now in
    let image_told = λ (told : TellsImage call.said g.S.Source.tells) (names : names_image (command_in settings) ≡ true). told (record { settings = settings; line_is = line_is; does = names }) in
    let loads = λ (told : TellsImage call.said g.S.Source.tells). loaded_case call settings case symbols line_is (loaded.loads (image_told told))
    (symbols_are settings c.in_ok-loaded.loaded.bytes.items (image_bytes settings call.image) _ (loaded.bytes (image_told told)) c.in-Ok-symbols.ensures.ok ∙ ap Ok (sym c.deref.ensures.value)) in
    let keeps_told = λ (tell : TellsFiles call.said g.D.Disk.tells g.T.Source.tells) (names : names_keep (command_in settings) ≡ true). tell.0 (record { settings = settings; line_is = line_is; does = names }) in
    let other_told = λ (tell : TellsFiles call.said g.D.Disk.tells g.T.Source.tells) (names : names_other (command_in settings) ≡ true). tell.1 (record { settings = settings; line_is = line_is; does = names }) in
    let before = g.O.Sink.taken c.args.out.now in
    let after = g.O.Sink.taken c.run_case.new.out in
    let cause = λ (told : TellsImage call.said g.S.Source.tells). of_case g.D.Disk.tells g.T.Source.tells call case (loads told) answer ran.cause in
    let report = λ (told : TellsImage call.said g.S.Source.tells) (taken : g.O.Sink.tells) (tell : TellsFiles call.said g.D.Disk.tells g.T.Source.tells) (done : answer ≡ status.Done).
    reported g.D.Disk.tells g.T.Source.tells call case (loads told) answer before after ran.cause done (ran.output.whole (keeps_told tell, (other_told tell, taken)) done) in
    let whole = counts_by g.S.Source.tells g.D.Disk.tells g.T.Source.tells g.O.Sink.tells call before after answer cause report in
    record {
      answered = record {
        cause = cause;
        usage = λ is. absurd (work_usage g.D.Disk.tells g.T.Source.tells settings call.files case (names_keep (command_in settings)) (names_other (command_in settings))
            (subst (IsWorkCause (names_keep (command_in settings)) (names_other (command_in settings)) g.D.Disk.tells g.T.Source.tells settings call.files case) is ran.cause));
        no_line = λ none. absurd (no_line call.said settings none line_is);
        counts = run_counts g.S.Source.tells g.D.Disk.tells g.T.Source.tells g.O.Sink.tells call before after answer whole;
        texts = true_texts g.S.Source.tells g.D.Disk.tells g.T.Source.tells g.O.Sink.tells call before after answer whole;
        report = report;
        part = λ told taken tell failed.
            reported_part g.D.Disk.tells g.T.Source.tells call case (loads told) answer _ _ ran.cause failed (ran.output.part (keeps_told tell, (other_told tell, taken)) failed);
        story = λ told. work_story g.S.Source.tells g.T.Source.tells call settings case old new answer line_is (λ tell. (loads tell, refl)) (ran.story told);
        union = λ told disk other. of_merge call case (loads (λ _. told)) old new answer (ran.union disk other);
      };
      reads = rw (work_reads g.D.Disk.tells g.T.Source.tells settings call.files case (names_keep (command_in settings)) (names_other (command_in settings)) answer ran.cause) loaded.faults;
      writes = ran.output.cause;
      keeps = ran.keeps;
      others = ran.others;
      stores = work_stores g.D.Disk.tells g.T.Source.tells settings call.files case (names_keep (command_in settings)) (names_other (command_in settings)) answer ran.cause;
      nothing = ran.output.nothing;
      no_image = λ none. c.load_line.ensures.no_image (none settings line_is);
      disk = λ none. ran.disk (none settings line_is);
      second = λ none. ran.second (none settings line_is);
    }

pub returns-in_err-loaded : goal.returns-in_err-loaded
returns-in_err-loaded g c =
    let old = g.D.Disk.past c.args.disk.now in
    let call = call_of (map string_bytes c.args.words.now) (g.S.Source.left c.args.image.now) (content old) (g.T.Source.left c.args.second.now) in
    let settings = request_of c.in-Ok.request in
    let answer = status_for c.in_err-loaded.field-0.0 in
    let refused = c.in_err-loaded.ensures in
    let keeps = image_keeps answer refused.of_image in
    let writes = image_writes answer refused.of_image in
    let line_is = c.in-Ok.ensures.ok in
    let why = λ (told : TellsImage call.said g.S.Source.tells). refused.refused (λ names. told (record { settings = settings; line_is = line_is; does = names })) in
    rw (left_by c.from_residual.result c.in_err-loaded.field-0.0 c.from_residual.ensures.1)
    (record {
      answered = unreported g.S.Source.tells g.D.Disk.tells g.T.Source.tells g.O.Sink.tells call _ _ old old answer (image_silent answer refused.of_image)
          (λ told. of_image g.D.Disk.tells g.T.Source.tells call settings answer line_is (why told))
          (λ is. absurd (subst IsImageStatus is refused.of_image))
          (λ none. absurd (no_line call.said settings none line_is))
          (λ told. no_image_story g.S.Source.tells g.T.Source.tells call (case_in settings) _ old answer why)
          (λ here loads names sound each kept others kept_is others_are. image_union here _ old answer refused.of_image);
      reads = refused.faults;
      writes = rw writes refl;
      keeps = rw keeps refl;
      others = rw (image_others answer refused.of_image) refl;
      stores = image_stores answer refused.of_image;
      nothing = λ not_done not_failed. refl;
      no_image = λ none. c.load_line.ensures.no_image (none settings line_is);
      disk = λ none. refl;
      second = λ none. refl;
    })

pub returns : goal.returns
returns g c =
    let old = g.D.Disk.past c.args.disk.now in
    let call = call_of (map string_bytes c.args.words.now) (g.S.Source.left c.args.image.now) (content old) (g.T.Source.left c.args.second.now) in
    let settings = request_of c.in-Ok.request in
    let loaded = c.in_ok-loaded.ensures in
    let read = c.in_ok-loaded.loaded.bytes.items in
    let answer = status_for c.in-Err.failure in
    let why = c.in-Err.ensures.refused in
    let is_image = symbols_of_image settings read answer why in
    let keeps = image_keeps answer is_image in
    let writes = image_writes answer is_image in
    let line_is = c.in-Ok.ensures.ok in
    let image_told = λ (told : TellsImage call.said g.S.Source.tells) (names : names_image (command_in settings) ≡ true). told (record { settings = settings; line_is = line_is; does = names }) in
    record {
      answered = unreported g.S.Source.tells g.D.Disk.tells g.T.Source.tells g.O.Sink.tells call _ _ old old answer (image_silent answer is_image)
          (λ told. of_symbols g.D.Disk.tells g.T.Source.tells call settings c.in_ok-loaded.loaded.case answer line_is (loaded.loads (image_told told))
          (subst (λ (b : List ℕ). IsSymbolCause settings b answer) (loaded.bytes (image_told told)) why))
          (λ is. absurd (subst IsImageStatus is is_image))
          (λ none. absurd (no_line call.said settings none line_is))
          (λ told. no_symbols_story g.S.Source.tells g.T.Source.tells call settings read old answer why)
          (λ here loads names sound each kept others kept_is others_are. image_union here _ old answer is_image);
      reads = rw (symbols_reads settings read answer why) loaded.faults;
      writes = rw writes refl;
      keeps = rw keeps refl;
      others = rw (image_others answer is_image) refl;
      stores = image_stores answer is_image;
      nothing = λ not_done not_failed. refl;
      no_image = λ none. c.load_line.ensures.no_image (none settings line_is);
      disk = λ none. refl;
      second = λ none. refl;
    }

pub returns-in-Err-Usage : goal.returns-in-Err-Usage
returns-in-Err-Usage g c =
    let old = g.D.Disk.past c.args.disk.now in
    let call = call_of (map string_bytes c.args.words.now) (g.S.Source.left c.args.image.now) (content old) (g.T.Source.left c.args.second.now) in
    record {
      answered = unreported g.S.Source.tells g.D.Disk.tells g.T.Source.tells g.O.Sink.tells call _ _ old old status.Usage tt
          (λ told. c.in-Err-Usage.ensures.usage (cc))
          (λ is. c.in-Err-Usage.ensures.usage (cc))
          (λ none. inl refl)
          (λ told. no_line_story g.S.Source.tells g.T.Source.tells call old status.Usage (λ told. tt))
          (λ here loads names sound each kept others kept_is others_are. tt);
      reads = refl;
      writes = refl;
      keeps = refl;
      others = refl;
      stores = refl;
      nothing = λ not_done not_failed. refl;
      no_image = λ none. refl;
      disk = λ none. refl;
      second = λ none. refl;
    }

pub returns-in-Err-NoMemory : goal.returns-in-Err-NoMemory
returns-in-Err-NoMemory g c =
    let old = g.D.Disk.past c.args.disk.now in
    let call = call_of (map string_bytes c.args.words.now) (g.S.Source.left c.args.image.now) (content old) (g.T.Source.left c.args.second.now) in
    record {
      answered = unreported g.S.Source.tells g.D.Disk.tells g.T.Source.tells g.O.Sink.tells call _ _ old old status.NoMemory tt
          (λ told. tt)
          (λ is. absurd (cc))
          (λ none. inr refl)
          (λ told. no_line_story g.S.Source.tells g.T.Source.tells call old status.NoMemory (λ told. inl refl))
          (λ here loads names sound each kept others kept_is others_are. tt);
      reads = refl;
      writes = refl;
      keeps = refl;
      others = refl;
      stores = refl;
      nothing = λ not_done not_failed. refl;
      no_image = λ none. refl;
      disk = λ none. refl;
      second = λ none. refl;
    }
