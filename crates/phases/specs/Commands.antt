-- What a command asks of a case.
use Rattle.std.specs.Prelude.{◌≡◌, true}
use Rattle.fs_model.specs.Case.{CaseData}
use Rattle.fs_model.specs.Run.{golden}
use Rattle.golden_trace.specs.Goldens.{IsFault}
use Rattle.command_line.specs.declared.commands.Command.{Command}
use Rattle.command_line.specs.Commands.{needs_halt}
use Rattle.phases.specs.Baselines.{Halts}
use Rattle.phases.specs.declared.status.Status.{Status}
use Rattle.phases.specs.declared.status.Status.TheVariants as status

-- the golden run is one that the command can do with
abbrev pub Serves : Command → CaseData → Type 0
Serves asked c = needs_halt asked ≡ true → Halts c

-- how the work of a command that names no campaign file may end on a case
abbrev pub IsCaseCause : Command → CaseData → Status → Type 0
IsCaseCause asked c (status.BadGolden fault) = (needs_halt asked ≡ true) × IsFault fault c.limit (golden c)
IsCaseCause asked c status.Done = Serves asked c
IsCaseCause asked c status.WriteFault = Serves asked c
IsCaseCause asked c status.NoMemory = Unit {0}
IsCaseCause asked c answer = ⊥
