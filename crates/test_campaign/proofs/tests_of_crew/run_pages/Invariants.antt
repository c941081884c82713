use Rattle.std.proofs.Common.{◌≡◌, length}
use Rattle.fs_model.specs.Job.{jobs_in}
use Rattle.test_campaign.proofs.tests_of_crew.run_pages.Given as goal

abbrev pub invariant-loop-first : goal.invariant-loop-first
invariant-loop-first g l = record {
  page : l.crew.page ≡ 40;
  jobs : length (jobs_in l.crew.case) ≡ 96;
}
