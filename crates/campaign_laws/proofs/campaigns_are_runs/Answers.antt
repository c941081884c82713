use Rattle.campaign_laws.proofs.CoreRuns.{asides_are_of_others, campaigns_are_runs, prepared_has_places}
use Rattle.campaign_laws.proofs.campaigns_are_runs.Goals as goal

pub returns-clause-runs : goal.returns-clause-runs
returns-clause-runs g c = campaigns_are_runs g.D.Disk.tells

pub returns-clause-prepared : goal.returns-clause-prepared
returns-clause-prepared g c = prepared_has_places

pub returns-clause-asides : goal.returns-clause-asides
returns-clause-asides g c = asides_are_of_others
