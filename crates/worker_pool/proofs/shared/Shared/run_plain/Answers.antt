use Rattle.std.proofs.Common.{[], ◌∷◌, sym, ap, ◌∙◌, arith}
use Rattle.fs_model.specs.declared.outcomes.Row.{Row}
use Rattle.fs_model.specs.Outcome.{outcome}
use Rattle.fs_model.specs.Verdict.{VerdictData}
use Rattle.experiment.specs.Jobs.{steps_of_job}
use Rattle.experiment.proofs.JobSites.{job_is, list_of, count_is}
use Rattle.def_use.proofs.RowLists.{one_row}
use Rattle.worker_pool.proofs.StepLists.{one_steps}
use Rattle.worker_pool.proofs.shared.Shared.run_plain.Goals as goal

pub run_job-requires-clause-cycle : goal.run_job-requires-clause-cycle
run_job-requires-clause-cycle g c =
    let s = c.args.self.now in
    let is = job_is s.case.now s.list.now.list c.args.number c.args.job.now (list_of s.case.now s.list.now c.requires.shared.list_is) c.requires.job in
    omega (arith, is.early, count_is s.case.now s.golden.now c.requires.shared.golden_is)

pub run_job-requires-clause-cell : goal.run_job-requires-clause-cell
run_job-requires-clause-cell g c =
    let s = c.args.self.now in
    (job_is s.case.now s.list.now.list c.args.number c.args.job.now (list_of s.case.now s.list.now c.requires.shared.list_is) c.requires.job).cell

pub run_job-requires-clause-bit : goal.run_job-requires-clause-bit
run_job-requires-clause-bit g c =
    let s = c.args.self.now in
    (job_is s.case.now s.list.now.list c.args.number c.args.job.now (list_of s.case.now s.list.now c.requires.shared.list_is) c.requires.job).bit

pub returns-clause-row : goal.returns-clause-row
returns-clause-row g c =
    let s = c.args.self.now in
    let row = ap (λ (v : VerdictData). v.row) c.run_job.ensures.verdict in
    one_row (outcome s.case.now) s.list.now.list c.args.number c.args.job.now c.requires.job ∙ ap (λ (r : Row). r ∷ []) (sym row)

pub returns-clause-taken : goal.returns-clause-taken
returns-clause-taken g c =
    let s = c.args.self.now in
    let taken = c.run_job.ensures.taken in
    let count = c.requires.shared.snaps_count ∙ count_is s.case.now s.golden.now c.requires.shared.golden_is in
    let steps = ap (λ n. steps_of_job s.case.now s.snaps.spacing n c.args.job.now) count ∙ sym (one_steps s.case.now s.snaps.spacing s.list.now.list c.args.number c.args.job.now c.requires.job) in
    rw steps at taken
