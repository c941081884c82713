use Rattle.event_core.proofs.PageRuns.{stops_are_runs}
use Rattle.event_core.proofs.laws.stops_are_runs.Goals as goal

pub returns : goal.returns
returns c = stops_are_runs
