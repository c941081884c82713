use Rattle.std.proofs.Common.{◌≡◌, take}
use Rattle.keep_format.proofs.runs.begun_again.Given as goal

abbrev pub invariant-loop-run : goal.invariant-loop-run
invariant-loop-run l = l.fronts.items ≡ take l.run-index l.runs.items
