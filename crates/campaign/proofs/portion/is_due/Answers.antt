use Rattle.campaign.proofs.InWindow.{tested_at}
use Rattle.campaign.proofs.portion.is_due.Goals as goal

pub returns-clause-value : goal.returns-clause-value
returns-clause-value c = tested_at c.args.window.now c.args.walk.now.list c.args.number c.get.result c.is_due.result c.get.ensures.job c.is_due.ensures
