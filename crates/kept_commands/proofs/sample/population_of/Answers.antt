use Rattle.std.proofs.Common.{sym, ap, ◌∙◌}
use Rattle.std.specs.Prelude.{List, sum_by}
use Rattle.fs_model.specs.declared.sites.Job.{Job}
use Rattle.fs_model.proofs.Tables.{list_of}
use Rattle.campaign.specs.Sampled.{population}
use Rattle.kept_commands.proofs.sample.population_of.Goals as goal

pub returns-then-live : goal.returns-then-live
returns-then-live c =
    let b = c.args.baseline.now in
    c.live_weight.ensures ∙ ap (λ (list : List Job). sum_by (λ (job : Job). job.weight) list) (list_of b.case c.list.result.now (c.list.ensures ∙ c.facts.ensures.jobs))
    ∙ ap (population b.case) (sym c.if-live.true)
