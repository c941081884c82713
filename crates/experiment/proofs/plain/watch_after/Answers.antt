use Rattle.experiment.proofs.Follows.{watch_begun}
use Rattle.experiment.proofs.plain.watch_after.Goals as goal

pub returns : goal.returns
returns c = watch_begun c.new-watch.result c.restart_at.new.self _ _ _ _ c.args.sent c.new-watch.ensures c.exit.ensures c.output.ensures c.restart_at.ensures
