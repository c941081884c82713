use Rattle.std.proofs.Common.{◌≡◌, ◌%◌, ◌≤◌, [], ◌∷◌, sym, ap, ◌∙◌, arith}
use Rattle.fs_model.specs.Job.{jobs_in}
use Rattle.fs_model.specs.Run.{cycles}
use Rattle.snapshot_store.specs.Stored.{SnapsData}
use Rattle.experiment.proofs.Finer.{job_finer}
use Rattle.experiment.proofs.Rises.{within_more}
use Rattle.worker_pool.specs.Workers.{steps_in}
use Rattle.worker_pool.proofs.Near.{near_is}
use Rattle.fs_model.specs.declared.outcomes.Row.{Row}
use Rattle.fs_model.specs.Outcome.{outcome}
use Rattle.fs_model.specs.Verdict.{VerdictData}
use Rattle.experiment.specs.Jobs.{steps_of_job}
use Rattle.experiment.proofs.JobSites.{listed, list_of, count_is}
use Rattle.def_use.proofs.RowLists.{one_row}
use Rattle.worker_pool.proofs.StepLists.{one_steps}
use Rattle.worker_pool.proofs.shared.Shared.run_known.Goals as goal

pub run_job_known-requires-clause-job : goal.run_job_known-requires-clause-job
run_job_known-requires-clause-job g c =
    let s = c.args.self.now in
    rw c.reference-reference.ensures.case (listed s.list.now.list (jobs_in s.case.now) c.args.number c.args.job.now (list_of s.case.now s.list.now c.requires.shared.list_is) c.requires.job)

pub returns-clause-row : goal.returns-clause-row
returns-clause-row g c =
    let s = c.args.self.now in
    let row = ap (λ (v : VerdictData). v.row) c.run_job_known.ensures.verdict in
    one_row (outcome s.case.now) s.list.now.list c.args.number c.args.job.now c.requires.job ∙ ap (λ (r : Row). r ∷ []) (sym (rw c.reference-reference.ensures.case at row))

-- from states that are nearer no more steps are taken
pub returns-clause-taken : goal.returns-clause-taken
returns-clause-taken g c =
    let s = c.args.self.now in
    let job = c.args.job.now in
    let e = c.reference-reference.ensures in
    let near = c.reference-reference.result.snaps.now in
    let is = near_is s c.requires.shared in
    let divides : s.snaps.spacing % near.spacing ≡ 0 = ap (λ (x : SnapsData). s.snaps.spacing % x.spacing) e.snaps ∙ is.divides in
    let count : near.count ≡ cycles s.case.now = ap (λ (x : SnapsData). x.count) e.snaps ∙ is.same_count ∙ count_is s.case.now s.golden.now c.requires.shared.golden_is in
    let some : 1 ≤ near.spacing = omega (arith, c.spacing.ensures.some, c.spacing.ensures.value) in
    let finer = job_finer s.case.now s.snaps.spacing near.spacing near.count job some divides in
    let steps : steps_of_job s.case.now s.snaps.spacing near.count job ≡ steps_in s (c.args.number ∷ []) =
    ap (λ n. steps_of_job s.case.now s.snaps.spacing n job) count ∙ sym (one_steps s.case.now s.snaps.spacing s.list.now.list c.args.number job c.requires.job) in
    let taken = c.run_job_known.ensures.taken in
    within_more 1 c.args.machine.now.taken (steps_of_job s.case.now near.spacing near.count job) (steps_in s (c.args.number ∷ [])) c.run_job_known.new.machine.taken (rw e.case at taken) (omega (arith, finer, steps))
