use Rattle.std.proofs.Common.{ap, sym, ◌∙◌}
use Rattle.fs_model.proofs.Tables.{list_of}
use Rattle.fs_model.specs.Job.{JobTable, jobs_in}
use Rattle.phases.proofs.opened.Opened.of_baseline.Goals as goal

pub look-requires : goal.look-requires
look-requires g c =
    ap (λ (t : JobTable). t.list) c.list.ensures ∙ list_of c.args.baseline.case c.args.baseline.list c.facts.ensures.jobs ∙ ap jobs_in (sym c.case.ensures)
