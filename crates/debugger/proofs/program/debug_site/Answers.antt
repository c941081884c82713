use Rattle.debugger.proofs.Debugging.{talked_of, until_of}
use Rattle.debugger.proofs.program.debug_site.Goals as goal

pub returns-in-Ok-begin-clause-talk : goal.returns-in-Ok-begin-clause-talk
returns-in-Ok-begin-clause-talk g c = λ hears told.
    talked_of _ _ c.in-Ok.facts _ _ _ _ _ c.in-Ok.ensures c.in-Ok-begin.ensures c.serve-served.result _ (c.serve-served.ensures.talk hears told)

pub returns-in-Ok-begin-clause-broken : goal.returns-in-Ok-begin-clause-broken
returns-in-Ok-begin-clause-broken g c = λ hears told.
    until_of _ _ c.in-Ok.facts _ _ _ _ _ c.in-Ok.ensures c.in-Ok-begin.ensures c.serve-served.result (c.serve-served.ensures.broken hears told)
