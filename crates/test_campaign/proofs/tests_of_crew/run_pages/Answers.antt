use Rattle.std.proofs.Common.{length, ap, ◌∙◌}
use Rattle.fs_model.specs.Job.{jobs_in}
use Rattle.fs_model.specs.Case.{CaseData}
use Rattle.test_campaign.proofs.tests_of_crew.run_pages.Goals as goal

pub loop-first-preserved : goal.loop-first-preserved
loop-first-preserved g c =
    let i = c.loop-first.invariant in
    let e = c.in_ok-run_part.ensures.same in
    record {
      page = e.1 ∙ i.page;
      jobs = ap (λ (x : CaseData). length (jobs_in x)) e.0 ∙ i.jobs;
    }
