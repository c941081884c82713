use Rattle.fail_cli.proofs.AllCounts.{all_counts}
use Rattle.fail_cli.proofs.laws.all_counts.Goals as goal

pub returns : goal.returns
returns g c = all_counts g.S.Source.tells g.D.Disk.tells g.T.Source.tells g.O.Sink.tells
