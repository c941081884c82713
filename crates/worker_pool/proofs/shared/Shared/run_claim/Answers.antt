use Rattle.std.proofs.Common.{◌≡◌, ℕ, ◌-◌, ◌^◌, ◌<◌, ◌≤◌, Bool, [], ◌∷◌, Some, length, ap, sym, ◌∙◌, arith}
use Rattle.std.specs.Prelude.{slice_get}
use Rattle.fs_model.specs.declared.sites.Job.{Job}
use Rattle.snapshot_store.specs.Along.{Rose}
use Rattle.experiment.specs.Jobs.{RoseAs, steps_of_job}
use Rattle.experiment.proofs.JobSites.{job_is, list_of, count_is}
use Rattle.experiment.proofs.Rises.{as_rose, below_limit, job_some}
use Rattle.worker_pool.specs.declared.own_desk.CaseLedger.{Ghosts}
use Rattle.worker_pool.specs.declared.shared.Shared.{Shared}
use Rattle.worker_pool.specs.Workers.{IsShared, steps_in}
use Rattle.worker_pool.proofs.StepLists.{one_steps}
use Rattle.worker_pool.proofs.shared.Shared.run_claim.Goals as goal

-- without memory for known runs the steps are those of the job, one at least
taken_as : {K : Type 0} {G : Ghosts K} (s : Shared K G) (number : ℕ) (job : Job) (meets : Bool) (old new : ℕ) → IsShared s → slice_get s.list.now.list number ≡ Some job
    → old ≤ 2 ^ 64 - 1 → Rose old (steps_in s (number ∷ [])) new → RoseAs meets 1 old (steps_in s (number ∷ [])) new
taken_as s number job meets old new shared at few rose =
    let is = job_is s.case.now s.list.now.list number job (list_of s.case.now s.list.now shared.list_is) at in
    let count = count_is s.case.now s.golden.now shared.golden_is in
    let low : job.cycle < length s.golden.now.touches = omega (arith, is.early, count) in
    let some = job_some s.case.now s.snaps.spacing (length s.golden.now.touches) job (below_limit s.case.now s.golden.now job.cycle shared.golden_is low) in
    let steps : steps_of_job s.case.now s.snaps.spacing (length s.golden.now.touches) job ≡ steps_in s (number ∷ []) =
    ap (λ n. steps_of_job s.case.now s.snaps.spacing n job) count ∙ sym (one_steps s.case.now s.snaps.spacing s.list.now.list number job at) in
    as_rose meets 1 old (steps_in s (number ∷ [])) new few (omega (arith, some, steps)) rose

pub returns-in-None-clause-taken : goal.returns-in-None-clause-taken
returns-in-None-clause-taken g c =
    taken_as c.args.self.now c.args.number c.args.job.now _ _ _ c.requires.shared c.requires.job (omega (arith, c.taken.ensures)) c.run_plain-in-None.ensures.taken

pub returns-in-None-known-clause-taken : goal.returns-in-None-known-clause-taken
returns-in-None-known-clause-taken g c =
    taken_as c.args.self.now c.args.number c.args.job.now _ _ _ c.requires.shared c.requires.job (omega (arith, c.taken.ensures)) c.run_plain.ensures.taken
