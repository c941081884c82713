use Rattle.phases.proofs.SiteComplete.{complete}
use Rattle.debugger.proofs.program.debug_run.Goals as goal

pub returns-clause-complete : goal.returns-clause-complete
returns-clause-complete g c = λ told expected own cause no_read no_hear no_write.
    let ran = c.debug_words-status.ensures in
    complete _ _ _ _ _ _ _ _ c.debug_words-status.result expected (ran.cause told) ran.reads ran.hears ran.writes own cause no_read no_hear no_write
