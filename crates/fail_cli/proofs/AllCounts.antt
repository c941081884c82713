-- What a command wrote is that of the case alone, if the files are right: from the cause of its answer, and from what it
-- reports whatever its files hold.
use Rattle.std.proofs.Common.{◌≡◌, ℕ, true, false, List, ◌++◌, ap, subst, ◌∙◌}
use Rattle.fs_model.specs.Case.{CaseData}
use Rattle.command_line.specs.Request.{RequestData, command_in}
use Rattle.command_line.specs.Commands.{names_keep, names_other}
use Rattle.phases.specs.declared.status.Status.{Status}
use Rattle.phases.specs.declared.status.Status.TheVariants as status
use Rattle.kept_commands.specs.Call.{CallData}
use Rattle.kept_commands.specs.Causes.{IsCause, IsGoodRun}
use Rattle.kept_commands.specs.Keep.{Finishes}
use Rattle.kept_commands.specs.Merge.{answer_for, both_boards}
use Rattle.kept_commands.specs.Words.{Does, TellsFiles, TellsImage, fresh_of, portion_asked}
use Rattle.kept_commands.proofs.OneAnswer.{case_once, other_keeps, same_line}
use Rattle.fail_cli.specs.Laws.{AllCounts}
use Rattle.fail_cli.specs.Run.{Counts, Reports, Trusts}
use Rattle.fail_cli.proofs.Said.{said_text}

module _ (tells_image tells told tells_out : Type 0) (call : CallData) (before after : List ℕ) (answer : Status)
    (cause : TellsImage call.said tells_image → IsCause tells told call answer)
    (report : TellsImage call.said tells_image → tells_out → TellsFiles call.said tells told → answer ≡ status.Done → Reports call before after) where
  pub counts_by : TellsImage call.said tells_image → tells_out → TellsFiles call.said tells told → answer ≡ status.Done → Trusts call → Counts call before after
  counts_by image out files done trusts =
      let said = report image out files done in
      let good : IsGoodRun tells told call status.Done = subst (IsCause tells told call) done (cause image) in
      let lines : good.loads.settings ≡ said.loads.settings = same_line call.said good.loads.settings said.loads.settings good.loads.line_is said.loads.line_is in
      let cases : good.case ≡ said.case = case_once call good.case said.case good.loads said.loads in
      let trust = trusts said.case said.loads in
      let settings = said.loads.settings in
      record {
        case = said.case;
        loads = said.loads;
        serves = said.serves;
        written =
            said.wrote.written
            ∙ ap (λ (text : List ℕ). before ++ text)
            (said_text said.case settings said.loads.symbols call.files said.wrote.text said.wrote.says trust.0 trust.1
            (λ names alone.
            subst (λ (c : CaseData). Finishes (fresh_of settings) (portion_asked settings) call.files.file c) cases
            (subst (λ (s : RequestData). names_keep (command_in s) ≡ true → names_other (command_in s) ≡ false → Finishes (fresh_of s) (portion_asked s) call.files.file good.case) lines (finishes good files) names alone))
            (λ names.
            subst (λ (c : CaseData). answer_for (both_boards call.files.file call.files.other c) ≡ status.Done) cases
            (subst (λ (s : RequestData). names_other (command_in s) ≡ true → answer_for (both_boards call.files.file call.files.other good.case) ≡ status.Done) lines (merges good files) names)));
      }
    where
      finishes : (good : IsGoodRun tells told call status.Done) → TellsFiles call.said tells told → names_keep (command_in good.loads.settings) ≡ true → names_other (command_in good.loads.settings) ≡ false
          → Finishes (fresh_of good.loads.settings) (portion_asked good.loads.settings) call.files.file good.case
      finishes good files names alone =
          let does : Does names_keep call.said = record { settings = good.loads.settings; line_is = good.loads.line_is; does = names } in
          good.keeps names alone (files.0 does)

      merges : (good : IsGoodRun tells told call status.Done) → TellsFiles call.said tells told → names_other (command_in good.loads.settings) ≡ true
          → answer_for (both_boards call.files.file call.files.other good.case) ≡ status.Done
      merges good files names =
          let keeps : Does names_keep call.said = record { settings = good.loads.settings; line_is = good.loads.line_is; does = other_keeps (command_in good.loads.settings) names } in
          let others : Does names_other call.said = record { settings = good.loads.settings; line_is = good.loads.line_is; does = names } in
          (good.merges names).1 (files.0 keeps) (files.1 others)

pub all_counts : (tells_image tells told tells_out : Type 0) → AllCounts tells_image tells told tells_out
all_counts tells_image tells told tells_out call before after old new answer is = counts_by tells_image tells told tells_out call before after answer is.cause is.report
