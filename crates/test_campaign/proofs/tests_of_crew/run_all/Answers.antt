use Rattle.std.proofs.Common.{List, length, ap, ◌∙◌, arith}
use Rattle.fs_model.specs.declared.sites.Job.{Job}
use Rattle.fs_model.specs.Job.{jobs_in}
use Rattle.worker_pool.specs.CrewData.{CrewData}
use Rattle.test_campaign.proofs.tests_of_crew.run_all.Goals as goal

pub run_pages-requires-clause-page : goal.run_pages-requires-clause-page
run_pages-requires-clause-page g c = λ κs within. ap (λ (r : CrewData). r.page) c.in_ok-crew.ensures

pub run_pages-requires-clause-jobs : goal.run_pages-requires-clause-jobs
run_pages-requires-clause-jobs g c =
    λ κs within. let long = ap (λ (l : List Job). length l) c.requires.list in
    ap (λ (r : CrewData). length (jobs_in r.case)) c.in_ok-crew.ensures ∙ omega (arith, long, c.len.ensures)
