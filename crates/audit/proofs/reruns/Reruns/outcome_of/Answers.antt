use Rattle.std.proofs.Common.{◌≡◌, refl, Some, subst, sym, arith}
use Rattle.std.specs.Prelude.{slice_get}
use Rattle.fs_model.specs.Case.{CaseData}
use Rattle.fs_model.specs.Job.{jobs_in}
use Rattle.experiment.proofs.JobSites.{count_is, job_is}
use Rattle.audit.proofs.reruns.Reruns.outcome_of.Goals as goal

pub run_job-requires-clause-cycle : goal.run_job-requires-clause-cycle
run_job-requires-clause-cycle c =
    let case = c.self.inside.case.now in
    let at = subst (λ (d : CaseData). slice_get (jobs_in d) c.requires.number ≡ Some c.args.job.now) (sym c.self.view_is) c.requires.at in
    let is = job_is case (jobs_in case) c.requires.number c.args.job.now refl at in
    let count = count_is case c.self.inside.golden.now c.self.invariant.golden_is in
    omega (arith, is.early, count)

pub run_job-requires-clause-cell : goal.run_job-requires-clause-cell
run_job-requires-clause-cell c =
    let case = c.self.inside.case.now in
    let at = subst (λ (d : CaseData). slice_get (jobs_in d) c.requires.number ≡ Some c.args.job.now) (sym c.self.view_is) c.requires.at in
    (job_is case (jobs_in case) c.requires.number c.args.job.now refl at).cell

pub run_job-requires-clause-bit : goal.run_job-requires-clause-bit
run_job-requires-clause-bit c =
    let case = c.self.inside.case.now in
    let at = subst (λ (d : CaseData). slice_get (jobs_in d) c.requires.number ≡ Some c.args.job.now) (sym c.self.view_is) c.requires.at in
    (job_is case (jobs_in case) c.requires.number c.args.job.now refl at).bit
