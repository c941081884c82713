-- What each command wrote, from one statement for all.
use Rattle.std.proofs.Common.{◌≡◌, ℕ, Bool, true, false, List, ◌++◌, Option, Some, Ok, refl, ap, sym, subst, ◌∙◌}
use Rattle.fs_model.specs.Case.{CaseData}
use Rattle.command_line.specs.Commands.{names_image, names_keep, names_other}
use Rattle.command_line.specs.Said.{CaseLineData}
use Rattle.command_line.specs.Request.{CampaignData, RequestData, case_in, command_in}
use Rattle.command_line.specs.Request as request
use Rattle.command_line.specs.declared.commands.Command.{Command}
use Rattle.command_line.specs.declared.commands.Format.{Format}
use Rattle.command_line.specs.declared.commands.Format.TheVariants.{Text as AsText}
use Rattle.elf_symbols.specs.declared.tables.Symbol.{Symbol}
use Rattle.phases.specs.Commands.{Serves}
use Rattle.phases.specs.Loading.{LoadsBy, image_bytes, symbols_by}
use Rattle.phases.specs.Reports.{report_of}
use Rattle.phases.specs.declared.status.Status.{Status}
use Rattle.phases.specs.declared.status.Status.TheVariants as status
use Rattle.kept_commands.specs.Call.{CallData}
use Rattle.kept_commands.specs.Keep.{HasRightRows, IsTrusted}
use Rattle.kept_commands.specs.Words.{Does, TellsFiles, TellsImage, fresh_of}
use Rattle.kept_commands.proofs.OneAnswer.{same_line}
use Rattle.kept_commands.proofs.RightRows.{rows_give_right}
use Rattle.fail_cli.specs.Counts.{HasWritten, TakesRight, case_report}
use Rattle.fail_cli.specs.Output.{output_of}
use Rattle.fail_cli.specs.Run.{Counts, Trusts}
use Rattle.fail_cli.specs.TrueTexts.{TrueTexts}

-- a test that a command does not pass
never : {A : Type 0} → false ≡ true → A
never e = absurd (cc)

-- what a call of these settings wrote
record WroteBy (settings : RequestData) (call : CallData) (before after : List ℕ) : Type 0 where
  pub case : CaseData
  pub loads : LoadsBy (case_in settings) (image_bytes settings call.image) case
  pub symbols : List Symbol
  pub symbols_are : symbols_by settings (image_bytes settings call.image) ≡ Ok symbols
  pub serves : Serves (command_in settings) case
  pub written : after ≡ before ++ output_of settings symbols call.files case

wrote_by : (settings : RequestData) (call : CallData) (before after : List ℕ) → call.said ≡ Some settings → Counts call before after → WroteBy settings call before after
wrote_by settings call before after line all =
    let same : all.loads.settings ≡ settings = same_line call.said all.loads.settings settings all.loads.line_is line in
    record {
      case = all.case;
      loads = subst (λ (s : RequestData). LoadsBy (case_in s) (image_bytes s call.image) all.case) same all.loads.loads;
      symbols = all.loads.symbols;
      symbols_are = subst (λ (s : RequestData). symbols_by s (image_bytes s call.image) ≡ Ok all.loads.symbols) same all.loads.symbols_are;
      serves = subst (λ (s : RequestData). Serves (command_in s) all.case) same all.serves;
      written = subst (λ (s : RequestData). after ≡ before ++ output_of s all.loads.symbols call.files all.case) same all.written;
    }

-- the rows of the files that the command names are right
abbrev HasRightFiles : RequestData → CallData → CaseData → Type 0
HasRightFiles settings call c =
    (names_keep (command_in settings) ≡ true → IsTrusted (fresh_of settings) call.files.file c) × (names_other (command_in settings) ≡ true → HasRightRows call.files.other c)

trusts_by : (settings : RequestData) (call : CallData) → call.said ≡ Some settings
    → ((c : CaseData) → LoadsBy (case_in settings) (image_bytes settings call.image) c → HasRightFiles settings call c) → Trusts call
trusts_by settings call line right c loads =
    let same : loads.settings ≡ settings = same_line call.said loads.settings settings loads.line_is line in
    let files : HasRightFiles loads.settings call c =
    subst (λ (s : RequestData). HasRightFiles s call c) (sym same) (right c (subst (λ (s : RequestData). LoadsBy (case_in s) (image_bytes s call.image) c) same loads.loads)) in
    ((λ names continues. rows_give_right c call.files.file (files.0 names continues)), (λ names. rows_give_right c call.files.other (files.1 names)))

-- a test that the words pass, their line passes
passes : (test : Command → Bool) (said : Option RequestData) (settings : RequestData) → said ≡ Some settings → Does test said → test (command_in settings) ≡ true
passes test said settings line does = ap (λ (s : RequestData). test (command_in s)) (same_line said settings does.settings line does.line_is) ∙ does.does

module _ (tells_image tells told tells_out : Type 0) (call : CallData) (before after : List ℕ) (answer : Status)
    (whole : TellsImage call.said tells_image → tells_out → TellsFiles call.said tells told → answer ≡ status.Done → Trusts call → Counts call before after) where
  of_line : (settings : RequestData) → call.said ≡ Some settings → (names_image (command_in settings) ≡ true → tells_image) → tells_out
      → (names_keep (command_in settings) ≡ true → tells) → (names_other (command_in settings) ≡ true → told) → answer ≡ status.Done
      → ((c : CaseData) → LoadsBy (case_in settings) (image_bytes settings call.image) c → HasRightFiles settings call c) → WroteBy settings call before after
  of_line settings line image out file other done right =
      wrote_by settings call before after line
      (whole (λ does. image (passes names_image call.said settings line does)) out
      ((λ does. file (passes names_keep call.said settings line does)), (λ does. other (passes names_other call.said settings line does))) done (trusts_by settings call line right))

  pub run_wrote : tells_image → tells → tells_out → answer ≡ status.Done → (case : CaseLineData) (campaign : CampaignData) → call.said ≡ Some (request.Run case campaign)
      → TakesRight case call.image campaign.fresh call.files.file → HasWritten case call.image (report_of campaign.format) before after
  run_wrote image file out done case campaign line right =
      let w = of_line (request.Run case campaign) line (λ _. image) out (λ _. file) never done (λ c loads. ((λ _. right c loads), never)) in
      record { case = w.case; loads = w.loads; halts = w.serves refl; written = w.written }

  pub run_counts : tells_image → tells → tells_out → answer ≡ status.Done → (case : CaseLineData) (campaign : CampaignData) → call.said ≡ Some (request.Run case campaign) → campaign.format ≡ AsText
      → TakesRight case call.image campaign.fresh call.files.file → HasWritten case call.image case_report before after
  run_counts image file out done case campaign line is_text right =
      let w = run_wrote image file out done case campaign line right in
      record { case = w.case; loads = w.loads; halts = w.halts; written = w.written ∙ ap (λ (f : Format). before ++ report_of f w.case) is_text }

  pub true_texts : tells_out → answer ≡ status.Done → TrueTexts tells_image tells told call before after
  true_texts out done = record {
    run = λ image file case campaign line right. run_wrote image file out done case campaign line right;
    report = λ image file case format line right.
        let w = of_line (request.Report case format) line (λ _. image) out (λ _. file) never done (λ c loads. ((λ _. right c loads), never)) in
        record { case = w.case; loads = w.loads; halts = w.serves refl; written = w.written };
    audit = λ image file case line right.
        let w = of_line (request.Audit case) line (λ _. image) out (λ _. file) never done (λ c loads. ((λ _. right c loads), never)) in
        record { case = w.case; loads = w.loads; halts = w.serves refl; written = w.written };
    merge = λ image file other case merging line right right_other.
        let w = of_line (request.Merge case merging) line (λ _. image) out (λ _. file) (λ _. other) done (λ c loads. ((λ _. right c loads), (λ _. right_other c loads refl))) in
        record { case = w.case; loads = w.loads; halts = w.serves refl; written = w.written };
    by_symbols = λ image file case line right.
        let w = of_line (request.Symbols case) line (λ _. image) out (λ _. file) never done (λ c loads. ((λ _. right c loads), never)) in
        (w.symbols, w.symbols_are, record { case = w.case; loads = w.loads; halts = w.serves refl; written = w.written });
    brute = λ image case format line.
        let w = of_line (request.Brute case format) line (λ _. image) out never never done (λ c loads. (never, never)) in
        record { case = w.case; loads = w.loads; halts = w.serves refl; written = w.written };
    demo = λ case program line.
        let w = of_line (request.Demo case program) line never out never never done (λ c loads. (never, never)) in
        record { case = w.case; loads = w.loads; halts = w.serves refl; written = w.written };
    sample = λ image case draws line.
        let w = of_line (request.Sample case draws) line (λ _. image) out never never done (λ c loads. (never, never)) in
        record { case = w.case; loads = w.loads; halts = w.serves refl; written = w.written };
    plan = λ image case format line.
        let w = of_line (request.Plan case format) line (λ _. image) out never never done (λ c loads. (never, never)) in
        record { case = w.case; loads = w.loads; halts = w.serves refl; written = w.written };
    trace = λ image case line.
        let w = of_line (request.Trace case) line (λ _. image) out never never done (λ c loads. (never, never)) in
        (w.case, w.loads, w.written);
  }
