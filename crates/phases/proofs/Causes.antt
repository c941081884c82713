-- How the work of a command that names no campaign file ends.
use Rattle.std.proofs.Common.{◌≡◌, true, false, refl}
use Rattle.fs_model.specs.Case.{CaseData}
use Rattle.command_line.specs.declared.commands.Command.{Command}
use Rattle.phases.specs.Baselines.{Halts, HasNoBaseline}
use Rattle.command_line.specs.Commands.{needs_halt}
use Rattle.phases.specs.Commands.{IsCaseCause}
use Rattle.phases.specs.Status.{IsWriting, is_keep_fault}
use Rattle.phases.specs.declared.status.Status.{Status}
use Rattle.phases.specs.declared.status.Status.TheVariants as status
use Rattle.phases.proofs.Outputs.{IsSilent}

-- a golden run that halts, and then only writing
pub writing_cause : (asked : Command) (c : CaseData) (answer : Status) → IsWriting answer → Halts c → IsCaseCause asked c answer
writing_cause asked c status.Done writing halts = λ needs. halts
writing_cause asked c status.WriteFault writing halts = λ needs. halts
writing_cause asked c status.NoMemory writing halts = tt
writing_cause asked c answer writing halts = absurd writing

-- no baseline
pub no_baseline_cause : (asked : Command) (c : CaseData) (answer : Status) → needs_halt asked ≡ true → HasNoBaseline c answer → IsCaseCause asked c answer
no_baseline_cause asked c (status.BadGolden fault) needs why = (needs, why)
no_baseline_cause asked c status.NoMemory needs why = tt
no_baseline_cause asked c answer needs why = absurd why

pub no_baseline_silent : (c : CaseData) (answer : Status) → HasNoBaseline c answer → IsSilent answer
no_baseline_silent c (status.BadGolden fault) why = tt
no_baseline_silent c status.NoMemory why = tt
no_baseline_silent c answer why = absurd why

pub no_baseline_keeps : (c : CaseData) (answer : Status) → HasNoBaseline c answer → is_keep_fault answer ≡ false
no_baseline_keeps c (status.BadGolden fault) why = refl
no_baseline_keeps c status.NoMemory why = refl
no_baseline_keeps c answer why = absurd why

-- it tells no fault of a campaign file
pub case_keeps : (asked : Command) (c : CaseData) (answer : Status) → IsCaseCause asked c answer → is_keep_fault answer ≡ false
case_keeps asked c (status.BadGolden f) cause = refl
case_keeps asked c status.Done cause = refl
case_keeps asked c status.WriteFault cause = refl
case_keeps asked c status.NoMemory cause = refl
case_keeps asked c answer cause = absurd cause
