use Rattle.std.proofs.Common.{[], ◌∷◌, sym, ap, ◌∙◌}
use Rattle.fs_model.specs.declared.outcomes.Row.{Row}
use Rattle.fs_model.specs.Outcome.{outcome}
use Rattle.def_use.specs.Rows.{row_of_job}
use Rattle.def_use.proofs.RowLists.{one_row}
use Rattle.worker_pool.proofs.shared.Shared.row_of.Goals as goal

pub returns-in-Some : goal.returns-in-Some
returns-in-Some g c =
    let s = c.args.self.now in
    let here = c.in-Some.ensures ∙ ap (λ case. row_of_job (outcome case) c.args.job.now) c.requires.desk in
    one_row (outcome s.case.now) s.list.now.list c.args.number c.args.job.now c.requires.job ∙ ap (λ (r : Row). r ∷ []) (sym here)

pub returns : goal.returns
returns g c =
    let s = c.args.self.now in
    one_row (outcome s.case.now) s.list.now.list c.args.number c.args.job.now c.requires.job ∙ ap (λ (r : Row). r ∷ []) (sym c.in-Some-offered_row.ensures.some)
