use Rattle.std.proofs.Common.{◌≡◌, false, rules, sym, ◌∙◌}
use Rattle.debugger.proofs.Breaking.{broken_unanswered, broken_unwritten, heard_ok}
use Rattle.debugger.proofs.serve.take_byte.Goals as goal

pub returns-then-is_err-clause-broken : goal.returns-then-is_err-clause-broken
returns-then-is_err-clause-broken g c = λ told. broken_unanswered _ _ _

pub returns-in-Err-clause-broken : goal.returns-in-Err-clause-broken
returns-in-Err-clause-broken g c =
    let over : c.args.talk.now.over ≡ false = sym c.over.ensures ∙ (search rules) in
    λ told. broken_unwritten _ _ _ _ _ _ over (heard_ok _ _ (search rules) c.hear.ensures) (rw c.as_slice.ensures.value at c.in-Err.ensures.bytes told)
