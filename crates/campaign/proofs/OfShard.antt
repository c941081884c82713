-- A campaign that keeps to no window runs the jobs of its shard.
use Rattle.std.proofs.Common.{◌≡◌, ℕ, List, Option, None, Bool, ap, ◌∙◌}
use Rattle.fs_model.specs.Job.{jobs_in}
use Rattle.campaign.specs.Portions.{within_window}
use Rattle.campaign.specs.Ready.{ReadyData, portion_of}
use Rattle.campaign.specs.Shards.{in_shard}

pub shard_portion : (ready : ReadyData) (shard : Option (ℕ × ℕ)) → ready.shard ≡ shard → ready.window ≡ None → portion_of ready ≡ in_shard shard
shard_portion ready shard is none =
    ap (λ (s : Option (ℕ × ℕ)). within_window (in_shard s) ready.window (jobs_in ready.keeper.case)) is
    ∙ ap (λ (w : Option (List Bool)). within_window (in_shard shard) w (jobs_in ready.keeper.case)) none
