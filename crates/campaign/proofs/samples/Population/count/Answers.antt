use Rattle.std.proofs.Common.{◌+◌, sym, ap, ◌∙◌}
use Rattle.std.specs.Prelude.{List, sum_by}
use Rattle.fs_model.specs.declared.sites.Job.{Job}
use Rattle.fs_model.specs.Job.{jobs_in}
use Rattle.fs_model.proofs.Tables.{list_of, dead_of}
use Rattle.campaign.specs.Sampled.{population}
use Rattle.campaign.proofs.Drawing.{all_is}
use Rattle.campaign.proofs.samples.Population.count.Goals as goal

pub returns-then-self : goal.returns-then-self
returns-then-self c = λ d is.
    c.live_weight.ensures ∙ ap (λ (list : List Job). sum_by (λ (job : Job). job.weight) list) (list_of d c.args.self.now.list.now is) ∙ ap (population d) (sym c.if-self.true)

pub returns-else-self : goal.returns-else-self
returns-else-self c = λ d is.
    ap (λ n. n + c.dead_weight.result) (c.live_weight-else-self.ensures ∙ ap (λ (list : List Job). sum_by (λ (job : Job). job.weight) list) (list_of d c.args.self.now.list.now is))
    ∙ ap (λ n. sum_by (λ (job : Job). job.weight) (jobs_in d) + n) (c.dead_weight.ensures.value ∙ dead_of d c.args.self.now.list.now is)
    ∙ all_is d ∙ ap (population d) (sym c.if-self.false)
