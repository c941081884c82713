use Rattle.event_core.proofs.Placed.{IsPlaced-reached}
use Rattle.event_core.proofs.Weights.{kept_counts}
use Rattle.event_core.proofs.laws.every_list.Goals as goal

pub returns-clause-placed : goal.returns-clause-placed
returns-clause-placed c = IsPlaced-reached

pub returns-clause-counts : goal.returns-clause-counts
returns-clause-counts c = kept_counts
