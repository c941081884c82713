use Rattle.std.proofs.Common.{sym, subst}
use Rattle.job_queue.specs.Pages.{AreDistinct}
use Rattle.test_campaign.proofs.tests_of_crew.run_part.Goals as goal

pub run_page-requires-clause-apart : goal.run_page-requires-clause-apart
run_page-requires-clause-apart g c κs within = subst (λ l. AreDistinct l) (sym c.as_slice.ensures.value) c.in_ok-numbers.ensures.apart
