use Rattle.phases.specs.Failures.{status_for}
use Rattle.phases.proofs.SiteCauses.{of_case, of_image}
use Rattle.debugger.proofs.Debugging.{debugs, until_case, until_image}
use Rattle.debugger.proofs.program.debug_words.Goals as goal

pub returns-in-Ok-load_case-clause-cause : goal.returns-in-Ok-load_case-clause-cause
returns-in-Ok-load_case-clause-cause g c = λ tells.
    of_case _ _ _ c.in-Ok-load_case.loaded.case c.in-Ok.ensures.ok (c.in-Ok-load_case.ensures.loads tells) c.debug_case-status.result c.debug_case-status.ensures.cause

pub returns-in-Ok-load_case-clause-talk : goal.returns-in-Ok-load_case-clause-talk
returns-in-Ok-load_case-clause-talk g c = λ tells hears told done.
    debugs _ _ _ _ c.in-Ok-load_case.loaded.case c.in-Ok.ensures.ok (c.in-Ok-load_case.ensures.loads tells) _ _ _ _ (c.debug_case-status.ensures.talk hears told done)

pub returns-in-Err-clause-cause : goal.returns-in-Err-clause-cause
returns-in-Err-clause-cause g c = λ tells.
    rw c.status.ensures (of_image _ _ _ (status_for c.in-Err.failure) c.in-Ok.ensures.ok (c.in-Err.ensures.refused tells))

pub returns-in-Ok-load_case-clause-broken : goal.returns-in-Ok-load_case-clause-broken
returns-in-Ok-load_case-clause-broken g c = λ tells hears told.
    until_case _ _ _ _ c.in-Ok-load_case.loaded.case c.in-Ok.ensures.ok (c.in-Ok-load_case.ensures.loads tells) c.debug_case-status.result _ _ _ _ (c.debug_case-status.ensures.broken hears told)

pub returns-in-Err-clause-broken : goal.returns-in-Err-clause-broken
returns-in-Err-clause-broken g c = λ tells hears told.
    rw c.status.ensures (until_image _ _ _ _ _ (status_for c.in-Err.failure) (c.in-Err.ensures.refused tells))
