use Rattle.std.proofs.Common.{◌-◌, length}
use Rattle.keep_format.specs.Runs.{with_first, most_runs}
use Rattle.keep_format.proofs.RunWalk.{Searched}
use Rattle.keep_format.proofs.runs.find_in_runs.Given as goal

abbrev pub invariant-runs : goal.invariant-runs
invariant-runs l = Searched l.rows.rows l.runs.items (with_first l.next l.rest)

abbrev pub decreases-runs : goal.decreases-runs
decreases-runs l = most_runs - length l.runs.items
