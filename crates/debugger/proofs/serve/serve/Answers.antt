use Rattle.std.proofs.Common.{◌≡◌, true, false, rules, arith, sym, ◌∙◌}
use Rattle.std.proofs.lemmas.Result.{err_from_is_err_and}
use Rattle.debugger.proofs.Breaking.{broken_later}
use Rattle.debugger.proofs.Serving.{talk_at_end, talk_left, talk_too_long, talks_to_more, talks_to_none}
use Rattle.debugger.proofs.serve.serve.Goals as goal

pub loop-read-init : goal.loop-read-init
loop-read-init g c = record { reads = search rules; writes = search rules; so_far = λ tells told. talks_to_none _ _ _ }

pub loop-read-preserved : goal.loop-read-preserved
loop-read-preserved g c =
    let more : c.in_ok-more.more ≡ true = search rules in
    record {
      reads = search rules;
      writes = search rules;
      so_far = λ tells told. talks_to_more _ _ _ _ _ _ _ _ _ _ c.in_ok-more.more more (c.loop-read.invariant.so_far tells told) (c.in_ok-more.ensures.talk tells told);
    }

pub returns-then-not-more-clause-talk : goal.returns-then-not-more-clause-talk
returns-then-not-more-clause-talk g c =
    let end : c.in_ok-more.more ≡ false = search rules in
    λ tells told. talk_at_end _ _ _ _ _ _ _ _ _ _ c.in_ok-more.more end (c.loop-read.invariant.so_far tells told) (c.in_ok-more.ensures.talk tells told)

pub returns-then-over-clause-talk : goal.returns-then-over-clause-talk
returns-then-over-clause-talk g c =
    let left : c.over.result ≡ true = search rules in
    λ tells told. talk_left _ _ _ _ _ _ _ _ _ _ c.in_ok-more.more (sym c.over.ensures ∙ left) (c.loop-read.invariant.so_far tells told) (c.in_ok-more.ensures.talk tells told)

pub returns-clause-talk : goal.returns-clause-talk
returns-clause-talk g c = λ tells told. talk_too_long _ _ _ _ _ _ _ (omega arith) (c.loop-read.invariant.so_far tells told)

pub returns-in_err-more-clause-broken : goal.returns-in_err-more-clause-broken
returns-in_err-more-clause-broken g c =
    let p = err_from_is_err_and c.from_residual.result c.from_residual.ensures.1 in λ tells told.
    rw (p.1, p.2) (broken_later _ _ _ _ _ _ _ _ _ _ (c.loop-read.invariant.so_far tells told) (c.in_err-more.ensures.broken tells told))
