use Rattle.std.proofs.Common.{◌-◌, ◌<◌, ap, ◌∙◌, arith, length}
use Rattle.fs_model.specs.declared.sites.Job.{Job}
use Rattle.fs_model.specs.declared.sites.Site.{Site}
use Rattle.fs_model.specs.declared.outcomes.Outcome.{Outcome}
use Rattle.std.specs.Prelude.{Contains}
use Rattle.fs_model.specs.Job.{jobs_in, site_of}
use Rattle.fs_model.specs.Run.{State, ending}
use Rattle.fs_model.specs.Outcome.{outcome}
use Rattle.rv_machine.specs.Machines.{MachineData}
use Rattle.snapshot_store.proofs.AlongLegs.{at_case}
use Rattle.experiment.specs.declared.reference.Reference.{Reference}
use Rattle.experiment.specs.Steps.{begun}
use Rattle.experiment.specs.Kept.{ShortcutsData}
use Rattle.experiment.specs.Jobs.{steps_until}
use Rattle.experiment.proofs.JobSites.{count_is}
use Rattle.experiment.proofs.Onward.{has_first, outcome_any}
use Rattle.experiment.proofs.Injected.{sent_few, start_is, ending_is}
use Rattle.experiment.proofs.Rises.{rose_chain_up, job_rose_up}
use Rattle.experiment.proofs.known_runs.run_job_known.Goals as goal

-- the job's cycle is one of the golden run
low : (r : Reference) (job : Job) → Contains (jobs_in r.case.now) job → job.cycle < length r.golden.now.touches
low r job is = let early = (has_first r.case.now job is).is_job.early in omega (arith, early, count_is r.case.now r.golden.now r.golden_is)

pub first_site-first-requires-clause-some : goal.first_site-first-requires-clause-some
first_site-first-requires-clause-some g c = (has_first c.args.reference.now.case.now c.args.job.now c.requires.job).some

pub first_site-first-requires-clause-few : goal.first_site-first-requires-clause-few
first_site-first-requires-clause-few g c = (has_first c.args.reference.now.case.now c.args.job.now c.requires.job).few

pub go_to-sent-requires-clause-cycle : goal.go_to-sent-requires-clause-cycle
go_to-sent-requires-clause-cycle g c =
    let r = c.args.reference.now in
    omega (arith, low r c.args.job.now c.requires.job, r.count_is)

pub begin-requires-clause-first : goal.begin-requires-clause-first
unfolding site_of
begin-requires-clause-first g c =
    let r = c.args.reference.now in
    let same = c.known.view_is ∙ c.requires.known in
    let first = ap (λ (site : Site). outcome r.case.now site) c.first_site-first.ensures ∙ (has_first r.case.now c.args.job.now c.requires.job).same in
    rw same first

pub flip-requires-clause-cell : goal.flip-requires-clause-cell
flip-requires-clause-cell g c =
    let r = c.args.reference.now in
    let at = at_case r.case.now r.snaps.now.case c.args.job.now.cycle c.go_to-sent.result c.go_to-sent.new.machine r.snaps_are c.go_to-sent.ensures.at in
    rw at.same_case (has_first r.case.now c.args.job.now c.requires.job).is_job.cell

pub flip-requires-clause-bit : goal.flip-requires-clause-bit
flip-requires-clause-bit g c = (has_first c.args.reference.now.case.now c.args.job.now c.requires.job).is_job.bit

pub run_until_known-outcome-requires-clause-cycle : goal.run_until_known-outcome-requires-clause-cycle
run_until_known-outcome-requires-clause-cycle g c = rw c.begin.ensures (low c.args.reference.now c.args.job.now c.requires.job)

pub run_until_known-outcome-requires-clause-sent : goal.run_until_known-outcome-requires-clause-sent
run_until_known-outcome-requires-clause-sent g c =
    let r = c.args.reference.now in
    let job = c.args.job.now in
    let at = at_case r.case.now r.snaps.now.case job.cycle c.go_to-sent.result c.go_to-sent.new.machine r.snaps_are c.go_to-sent.ensures.at in
    sent_few r.case.now r.golden.now job.cycle c.go_to-sent.result c.go_to-sent.new.machine r.golden_is (low r job c.requires.job) at

pub run_until_known-outcome-requires-clause-own : goal.run_until_known-outcome-requires-clause-own
run_until_known-outcome-requires-clause-own g c =
    let r = c.args.reference.now in
    let job = c.args.job.now in
    let site : Site = record { cycle = job.cycle; cell = job.cell; bit = job.bit } in
    let at = at_case r.case.now r.snaps.now.case job.cycle c.go_to-sent.result c.go_to-sent.new.machine r.snaps_are c.go_to-sent.ensures.at in
    let start = start_is r.case.now r.golden.now site c.go_to-sent.result c.go_to-sent.new.machine c.flip.new.self r.golden_is (low r job c.requires.job) at c.flip.ensures in
    let is = ending_is r.case.now site (begun c.flip.new.self.core r.golden.now.output c.go_to-sent.result) start in
    rw c.begin.ensures (λ n. outcome_any r.case.now r.golden.now site (ending r.case.now (r.case.now.limit - job.cycle) (begun c.flip.new.self.core r.golden.now.output c.go_to-sent.result)) r.golden_is is n)

pub of-requires : goal.of-requires
of-requires g c = c.run_until_known-outcome.ensures.outcome ∙ ap (λ (x : ShortcutsData). outcome c.args.reference.now.case.now x.own) c.begin.ensures

pub returns : goal.returns
unfolding site_of
returns g c =
    let r = c.args.reference.now in
    let job = c.args.job.now in
    let k = r.snaps.now.spacing in
    let count = r.snaps.now.count in
    let site : Site = record { cycle = job.cycle; cell = job.cell; bit = job.bit } in
    let at = at_case r.case.now r.snaps.now.case job.cycle c.go_to-sent.result c.go_to-sent.new.machine r.snaps_are c.go_to-sent.ensures.at in
    let start = start_is r.case.now r.golden.now site c.go_to-sent.result c.go_to-sent.new.machine c.flip.new.self r.golden_is (low r job c.requires.job) at c.flip.ensures in
    let found = c.run_until_known-outcome.ensures.outcome ∙ ap (λ (x : ShortcutsData). outcome r.case.now x.own) c.begin.ensures in
    let taken = c.run_until_known-outcome.ensures.taken in
    record {
      verdict = c.of.ensures ∙ ap (λ (o : Outcome). record { case = r.case.now; row = record { cycle = job.cycle; cell = job.cell; bit = job.bit; outcome = o } }) found;
      taken = job_rose_up r.case.now k count job c.args.machine.now.taken c.run_until_known-outcome.new.machine.taken (rose_chain_up c.args.machine.now.taken c.go_to-sent.new.machine.taken c.flip.new.self.taken c.run_until_known-outcome.new.machine.taken _ _ _
          c.go_to-sent.ensures.taken (ap (λ (m : MachineData). m.taken) c.flip.ensures) (rw c.begin.ensures at taken) (ap (λ (s : State). steps_until r.case.now k count job.cycle s) start));
      case = c.run_until_known-outcome.ensures.case ∙ ap (λ (m : MachineData). m.case) c.flip.ensures ∙ at.same_case ∙ (let back = c.requires.machine in cc);
      known = c.run_until_known-outcome.ensures.same.0 ∙ ap (λ (x : ShortcutsData). x.case) c.begin.ensures ∙ c.known.view_is;
    }
