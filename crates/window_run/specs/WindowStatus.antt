-- How a call of `fail_window` ends: its number, for which device, and what the error output is told.
use Rattle.std.specs.Prelude.{ℕ, Bool, false, ◌++◌, codes, decimal}
use Rattle.phases.specs.Status.{Text, status_text}
use Rattle.phases.specs.Status as of_all
use Rattle.phases.specs.declared.status.Status.{Status}
use Rattle.phases.specs.declared.status.Status.TheVariants as status
use Rattle.window_parts.specs.declared.parts.NoPart.{NoPart}
use Rattle.window_parts.specs.declared.parts.NoPart.TheVariants.{NoFunctions, NoFunction, BeyondRun, NotExecuted}
use Rattle.window_run.specs.declared.status.WindowStatus.{WindowStatus}
use Rattle.window_run.specs.declared.status.WindowStatus.TheVariants.{Ended, Empty}

abbrev pub window_number : WindowStatus → ℕ
window_number (Ended answer) = of_all.number answer
window_number (Empty why) = 10

-- the call ended as calls of the other programs do, and its answer passes the test
abbrev pub is_ended_by : (Status → Bool) → WindowStatus → Bool
is_ended_by test (Ended answer) = test answer
is_ended_by test (Empty why) = false

-- ---- what the error output is told

-- why no instruction is in the part; an unknown function is named
abbrev pub no_part_text : Text → NoPart → Text
no_part_text name NoFunctions = codes "no instruction in the part: the image has no functions\n"
no_part_text name NoFunction = codes "no instruction in the part: no function " ++ (name ++ codes "\n")
no_part_text name (BeyondRun count) = codes "no instruction in the part: the golden run has " ++ (decimal count ++ codes " instructions\n")
no_part_text name NotExecuted = codes "no instruction in the part: none that fulfils its conditions is executed\n"

abbrev pub window_usage : Text
window_usage = codes "usage: fail_window IMAGE KEEP (--cycles A..B | --code LOW..HIGH | --function NAME) [options]\n"

-- one line, or nothing where the counts were written
abbrev pub window_told_text : Text → WindowStatus → Text
window_told_text name (Ended status.Usage) = window_usage
window_told_text name (Ended answer) = status_text answer
window_told_text name (Empty why) = no_part_text name why
