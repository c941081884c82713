use Rattle.std.proofs.Common.{arith}
use Rattle.std.proofs.lemmas.Result.{err_from_is_err_and}
use Rattle.debugger.proofs.Breaking.{broken_piece, broken_unread}
use Rattle.debugger.proofs.Serving.{takes_next}
use Rattle.debugger.proofs.serve.take_next.Goals as goal

pub returns-clause-talk : goal.returns-clause-talk
returns-clause-talk g c = λ tells told.
    takes_next _ _ _ _ _ _ _ c.read.new.buf c.in-Ok.count (omega (arith, c.in-Ok.ensures.fits)) c.requires (c.in-Ok.ensures.bytes tells) (c.in_ok-take.ensures.talk told)

pub returns-in-Err-clause-broken : goal.returns-in-Err-clause-broken
returns-in-Err-clause-broken g c = λ tells told. broken_unread _ _ _ _ (c.in-Err.ensures.err tells)

pub returns-in_err-take-clause-broken : goal.returns-in_err-take-clause-broken
returns-in_err-take-clause-broken g c =
    let p = err_from_is_err_and c.from_residual.result c.from_residual.ensures.1 in
    λ tells told.
    rw (p.1, p.2) (broken_piece _ _ _ _ _ _ _ _ c.in-Ok.count c.in_err-take.ensures.input (c.in-Ok.ensures.bytes tells) (c.in_err-take.ensures.broken told))
