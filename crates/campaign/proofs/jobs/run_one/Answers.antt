use Rattle.std.proofs.Common.{◌≡◌, ℕ, [], ◌∷◌, ap, sym, ◌∙◌, arith}
use Rattle.fs_model.specs.declared.outcomes.Row.{Row}
use Rattle.fs_model.specs.Outcome.{outcome}
use Rattle.fs_model.specs.Verdict.{VerdictData}
use Rattle.experiment.specs.Jobs.{steps_of_job}
use Rattle.def_use.specs.Rows.{row_of_job}
use Rattle.worker_pool.specs.Steps.{steps_of_numbers}
use Rattle.experiment.proofs.JobSites.{job_is, list_of, count_is}
use Rattle.def_use.proofs.RowLists.{one_row}
use Rattle.worker_pool.proofs.StepLists.{one_steps}
use Rattle.campaign.proofs.jobs.run_one.Goals as goal

pub run_job-requires-clause-cycle : goal.run_job-requires-clause-cycle
run_job-requires-clause-cycle c =
    let is = job_is c.args.of.now.case.now c.args.of.now.list.now.list c.args.number c.get-job.result (list_of c.args.of.now.case.now c.args.of.now.list.now c.requires.ready.list_is) c.get-job.ensures in
    let count = count_is c.args.of.now.case.now c.args.of.now.golden.now c.requires.ready.golden_is in
    omega (arith, is.early, count)

pub run_job-requires-clause-cell : goal.run_job-requires-clause-cell
run_job-requires-clause-cell c =
    (job_is c.args.of.now.case.now c.args.of.now.list.now.list c.args.number c.get-job.result (list_of c.args.of.now.case.now c.args.of.now.list.now c.requires.ready.list_is) c.get-job.ensures).cell

pub run_job-requires-clause-bit : goal.run_job-requires-clause-bit
run_job-requires-clause-bit c =
    (job_is c.args.of.now.case.now c.args.of.now.list.now.list c.args.number c.get-job.result (list_of c.args.of.now.case.now c.args.of.now.list.now c.requires.ready.list_is) c.get-job.ensures).bit

pub returns-clause-row : goal.returns-clause-row
returns-clause-row c =
    let row : c.row.result ≡ row_of_job (outcome c.args.of.now.case.now) c.get-job.result = c.row.ensures.value ∙ ap (λ (v : VerdictData). v.row) c.run_job.ensures.verdict in
    one_row (outcome c.args.of.now.case.now) c.args.of.now.list.now.list c.args.number c.get-job.result c.get-job.ensures
    ∙ ap (λ (r : Row). r ∷ []) (sym row)

pub returns-clause-taken : goal.returns-clause-taken
returns-clause-taken c =
    let count = c.requires.ready.snaps_count ∙ count_is c.args.of.now.case.now c.args.of.now.golden.now c.requires.ready.golden_is in
    let steps : steps_of_job c.args.of.now.case.now c.args.snaps.now.spacing c.args.snaps.now.count c.get-job.result ≡ steps_of_numbers c.args.of.now.case.now c.args.snaps.now.spacing c.args.of.now.list.now.list (c.args.number ∷ []) =
    ap (λ (k : ℕ). steps_of_job c.args.of.now.case.now c.args.snaps.now.spacing k c.get-job.result) count
    ∙ sym (one_steps c.args.of.now.case.now c.args.snaps.now.spacing c.args.of.now.list.now.list c.args.number c.get-job.result c.get-job.ensures) in
    let taken = c.run_job.ensures.taken in
    rw steps at taken
