use Rattle.event_core.proofs.Asides.{asides_are_there}
use Rattle.event_core.proofs.Missed.{pages_are_all}
use Rattle.event_core.proofs.PageRuns.{pages_are_runs}
use Rattle.event_core.proofs.Queues.{none_is_aside, others_are_aside}
use Rattle.event_core.proofs.laws.pages_are_runs.Goals as goal

pub returns-clause-runs : goal.returns-clause-runs
returns-clause-runs c = pages_are_runs

pub returns-clause-all : goal.returns-clause-all
returns-clause-all c = pages_are_all

pub returns-clause-asides : goal.returns-clause-asides
returns-clause-asides c = asides_are_there

pub returns-clause-none : goal.returns-clause-none
returns-clause-none c = none_is_aside

pub returns-clause-others : goal.returns-clause-others
returns-clause-others c = others_are_aside
