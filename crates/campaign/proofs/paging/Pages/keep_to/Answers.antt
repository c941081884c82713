use Rattle.std.proofs.Common.{Some, ap}
use Rattle.campaign.specs.Ready.{ReadyData}
use Rattle.campaign.proofs.paging.Pages.keep_to.Goals as goal

pub returns : goal.returns
returns g c = rw c.keep_to.ensures (ap (λ (r : ReadyData). record r { window = Some c.args.window.now }) c.self.view_is)
