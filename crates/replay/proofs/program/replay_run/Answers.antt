use Rattle.std.proofs.Common.{arith, refl}
use Rattle.phases.proofs.SiteComplete.{complete}
use Rattle.replay.proofs.program.replay_run.Goals as goal

-- a replay has no input, and so no fault of one
pub returns-clause-complete : goal.returns-clause-complete
returns-clause-complete g c = λ told expected own cause no_read no_write.
    let ran = c.replay_words-status.ensures in
    complete _ _ _ _ 0 0 _ _ c.replay_words-status.result expected (ran.cause told) ran.reads (rw ran.no_input refl) ran.writes own cause no_read (record { same = refl; room = omega arith }) no_write
