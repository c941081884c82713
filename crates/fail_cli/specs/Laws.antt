-- One statement about the texts of all commands.
use Rattle.std.specs.Prelude.{◌≡◌, ℕ, List}
use Rattle.fs_outside.specs.Past.{Past}
use Rattle.phases.specs.declared.status.Status.{Status}
use Rattle.phases.specs.declared.status.Status.TheVariants as status
use Rattle.kept_commands.specs.Call.{CallData}
use Rattle.kept_commands.specs.Words.{TellsFiles, TellsImage}
use Rattle.fail_cli.specs.Answered.{IsAnswered}
use Rattle.fail_cli.specs.Run.{Counts, Trusts}

-- Done: if the outcomes in the campaign file are right, or the command starts it again or does not use it, the
-- report has for each outcome the number of sites whose own run from the first instruction has it. A sample reports
-- the number of draws instead, of exactly the sites that its seed draws; an audit finds nothing wrong. For a merge,
-- the outcomes in both files must be right.
abbrev pub AllCounts : Type 0 → Type 0 → Type 0 → Type 0 → Type 0
AllCounts tells_image tells_file tells_other tells_out =
    (call : CallData) (before after : List ℕ) (old new : Past) (answer : Status)
    → IsAnswered tells_image tells_file tells_other tells_out call before after old new answer
    → TellsImage call.said tells_image → tells_out → TellsFiles call.said tells_file tells_other
    → answer ≡ status.Done → Trusts call → Counts call before after
