-- What a command wrote of a case that was loaded is what its call reports.
use Rattle.std.proofs.Common.{◌≡◌, ◌⊎◌, ℕ, Bool, true, false, List, None, subst}
use Rattle.fs_outside.specs.Past.{Past}
use Rattle.fs_model.specs.Case.{CaseData}
use Rattle.command_line.specs.Commands.{names_keep, names_other}
use Rattle.command_line.specs.Request.{command_in}
use Rattle.phases.specs.Commands.{Serves}
use Rattle.phases.specs.Output.{Wrote, WrotePart}
use Rattle.phases.specs.declared.status.Status.{Status}
use Rattle.phases.specs.declared.status.Status.TheVariants as status
use Rattle.phases.proofs.Outputs.{IsSilent}
use Rattle.kept_commands.specs.Call.{CallData}
use Rattle.kept_commands.specs.Causes.{IsCause, IsWorkCause, Loads}
use Rattle.kept_commands.specs.Words.{TellsImage}
use Rattle.fail_cli.specs.Answered.{IsAnswered}
use Rattle.fail_cli.specs.Crash.{CallStory, MergesBoth}
use Rattle.fail_cli.specs.Output.{Says}
use Rattle.fail_cli.specs.Run.{Reports, ReportsPart}

module _ (tells told : Type 0) (call : CallData) (c : CaseData) (loads : Loads call c) where
  abbrev EndsSo : Status → Type 0
  EndsSo answer = IsWorkCause (names_keep (command_in loads.settings)) (names_other (command_in loads.settings)) tells told loads.settings call.files c answer

  serves_done : (names others : Bool) → IsWorkCause names others tells told loads.settings call.files c status.Done → Serves (command_in loads.settings) c
  serves_done true false k = λ need. k.0
  serves_done true true k = λ need. k.0
  serves_done false others k = k

  serves_failed : (names others : Bool) → IsWorkCause names others tells told loads.settings call.files c status.WriteFault → Serves (command_in loads.settings) c
  serves_failed true false k = λ need. k.0
  serves_failed true true k = λ need. k.0
  serves_failed false others k = k

  pub reported : (answer : Status) (before after : List ℕ) → EndsSo answer → answer ≡ status.Done
      → Wrote (Says loads.settings loads.symbols call.files c) before after → Reports call before after
  reported answer before after k done wrote =
      record { case = c; loads = loads; serves = serves_done _ _ (subst EndsSo done k); wrote = wrote }

  pub reported_part : (answer : Status) (before after : List ℕ) → EndsSo answer → answer ≡ status.WriteFault
      → WrotePart (Says loads.settings loads.symbols call.files c) before after → ReportsPart call before after
  reported_part answer before after k failed wrote =
      record { case = c; loads = loads; serves = serves_failed _ _ (subst EndsSo failed k); wrote = wrote }

-- an answer that came before anything was written says nothing of a report
pub unreported : (tells_image tells told tells_out : Type 0) (call : CallData) (before after : List ℕ) (old new : Past) (answer : Status) → IsSilent answer
    → (TellsImage call.said tells_image → IsCause tells told call answer) → (answer ≡ status.Usage → call.said ≡ None) → (call.said ≡ None → (answer ≡ status.Usage) ⊎ (answer ≡ status.NoMemory))
    → (tells → CallStory tells_image told call old new answer) → MergesBoth call old new answer → IsAnswered tells_image tells told tells_out call before after old new answer
unreported tells_image tells told tells_out call before after old new answer silent cause usage no_line story union = record {
  cause = cause;
  usage = usage;
  no_line = no_line;
  counts = λ image file out done case campaign line is_text right. absurd (subst IsSilent done silent);
  texts = λ out done. absurd (subst IsSilent done silent);
  report = λ image out files done. absurd (subst IsSilent done silent);
  part = λ image out files failed. absurd (subst IsSilent failed silent);
  story = story;
  union = λ image file other. union;
}
