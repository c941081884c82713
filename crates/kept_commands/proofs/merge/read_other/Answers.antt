use Rattle.std.proofs.Common.{ap, sym, ◌∙◌}
use Rattle.fs_model.proofs.Tables.{list_of}
use Rattle.fs_model.specs.Job.{JobTable, jobs_in}
use Rattle.kept_commands.proofs.merge.read_other.Goals as goal

pub board_of-requires : goal.board_of-requires
board_of-requires g c =
    ap (λ (t : JobTable). t.list) c.list.ensures ∙ list_of c.args.baseline.now.case c.args.baseline.now.list c.facts.ensures.jobs ∙ ap jobs_in (sym c.case.ensures)
