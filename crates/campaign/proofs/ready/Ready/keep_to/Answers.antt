use Rattle.std.proofs.Common.{Some, ap, ◌∙◌}
use Rattle.fs_model.specs.Job.{jobs_in}
use Rattle.campaign.specs.Ready.{ReadyData}
use Rattle.campaign.specs.Shards.{in_shard}
use Rattle.campaign.proofs.InWindow.{narrowed_due}
use Rattle.campaign.proofs.ready.Ready.keep_to.Goals as goal

pub returns : goal.returns
returns g c =
    let same = c.keep_to.ensures ∙ ap (λ (r : ReadyData). record r { window = Some c.args.window.now }) c.self.view_is in
    record {
      same = same;
      jobs = λ n. rw same (narrowed_due (in_shard c.args.self.now.shard) c.args.window.now (jobs_in c.args.self.now.keeper.case) n);
    }
