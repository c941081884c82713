use Rattle.std.proofs.Common.{◌≡◌, ℕ, ◌-◌, ◌≤◌, refl, ap, ◌∙◌, arith}
use Rattle.fs_model.specs.declared.sites.Site.{Site}
use Rattle.fs_model.specs.declared.outcomes.Outcome.{Outcome}
use Rattle.fs_model.specs.Job.{site_of}
use Rattle.fs_model.specs.Run.{State}
use Rattle.rv_machine.specs.Machines.{MachineData}
use Rattle.snapshot_store.specs.Stored.{kept_below}
use Rattle.snapshot_store.proofs.AlongLegs.{at_case}
use Rattle.experiment.specs.Steps.{begun}
use Rattle.experiment.specs.Jobs.{steps_until}
use Rattle.experiment.proofs.Injected.{in_limit, sent_few, start_is, ending_is, outcome_is, rose_chain, job_rose, job_few, job_bound}
use Rattle.experiment.proofs.jobs.run_job.Goals as goal

pub run_until-outcome-requires-clause-sent : goal.run_until-outcome-requires-clause-sent
run_until-outcome-requires-clause-sent c =
    let at = at_case c.args.case.now c.copy_from.new.self.case c.args.job.now.cycle c.advance-sent.result c.advance-sent.new.machine (ap (λ (m : MachineData). m.case) c.copy_from.ensures ∙ c.requires.machine) c.advance-sent.ensures.at in
    sent_few c.args.case.now c.args.golden.now c.args.job.now.cycle c.advance-sent.result c.advance-sent.new.machine c.requires.golden c.requires.cycle at

pub of-requires : goal.of-requires
of-requires c =
    let case = c.args.case.now in
    let job = c.args.job.now in
    let site : Site = record { cycle = job.cycle; cell = job.cell; bit = job.bit } in
    let same = ap (λ (m : MachineData). m.case) c.copy_from.ensures ∙ c.requires.machine in
    let at = at_case case c.copy_from.new.self.case job.cycle c.advance-sent.result c.advance-sent.new.machine same c.advance-sent.ensures.at in
    let start = start_is case c.args.golden.now site c.advance-sent.result c.advance-sent.new.machine c.flip.new.self c.requires.golden c.requires.cycle at c.flip.ensures in
    let is = ending_is case site (begun c.flip.new.self.core c.args.golden.now.output c.advance-sent.result) start in
    outcome_is case c.args.golden.now site c.run_until-outcome.result _ c.requires.golden c.run_until-outcome.ensures.outcome is

pub returns : goal.returns
unfolding site_of
returns c =
    let case = c.args.case.now in
    let job = c.args.job.now in
    let k = c.args.snaps.now.spacing in
    let site : Site = record { cycle = job.cycle; cell = job.cell; bit = job.bit } in
    let same = ap (λ (m : MachineData). m.case) c.copy_from.ensures ∙ c.requires.machine in
    let at = at_case case c.copy_from.new.self.case job.cycle c.advance-sent.result c.advance-sent.new.machine same c.advance-sent.ensures.at in
    let start = start_is case c.args.golden.now site c.advance-sent.result c.advance-sent.new.machine c.flip.new.self c.requires.golden c.requires.cycle at c.flip.ensures in
    let is = ending_is case site (begun c.flip.new.self.core c.args.golden.now.output c.advance-sent.result) start in
    let outcome = outcome_is case c.args.golden.now site c.run_until-outcome.result _ c.requires.golden c.run_until-outcome.ensures.outcome is in
    let from : job.cycle - c.cycle.result ≡ job.cycle - kept_below k job.cycle = ap (λ (n : ℕ). job.cycle - n) (c.cycle.ensures ∙ c.nearest-snap.ensures.cycle_is) in
    let low : job.cycle ≤ case.limit = in_limit case c.args.golden.now job.cycle case.limit c.requires.golden refl c.requires.cycle in
    record {
      verdict = c.of.ensures ∙ ap (λ (o : Outcome). record { case = case; row = record { cycle = job.cycle; cell = job.cell; bit = job.bit; outcome = o } }) outcome;
      taken = job_rose case k c.args.snaps.now.count job c.args.machine.now.taken c.run_until-outcome.new.machine.taken (rose_chain c.args.machine.now.taken c.copy_from.new.self.taken c.advance-sent.new.machine.taken c.flip.new.self.taken c.run_until-outcome.new.machine.taken _ _ _ _
          (ap (λ (m : MachineData). m.taken) c.copy_from.ensures) c.advance-sent.ensures.taken (ap (λ (m : MachineData). m.taken) c.flip.ensures) c.run_until-outcome.ensures.taken from (ap (λ (s : State). steps_until case k c.args.snaps.now.count job.cycle s) start));
      most = job_few case k c.args.snaps.now.count job low;
      bound = job_bound case k c.args.snaps.now.count job (let some = c.spacing.ensures.some in let value = c.spacing.ensures.value in omega (arith, some, value)) low;
      case = c.run_until-outcome.ensures.case ∙ ap (λ (m : MachineData). m.case) c.flip.ensures ∙ at.same_case ∙ (let back = c.requires.machine in cc);
    }
