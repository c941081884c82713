use Rattle.std.proofs.Common.{◌≡◌, ℕ, ◌+◌, Bool, true, false, cond, ap, ◌∙◌, arith}
use Rattle.fs_model.specs.declared.outcomes.Outcome.TheVariants.{NoEffect}
use Rattle.fs_model.specs.Outcome.{TotalsData, same_outcome, sum_of, total_at}
use Rattle.fs_model.proofs.EachOutcome.{sum_of-totals_of, total_at-added, total_at-totals_of}
use Rattle.report.proofs.symbol_counts.dead_totals.Goals as goal

pub add-requires : goal.add-requires
add-requires c =
    let zero : sum_of c.zero-totals.result ≡ 0 = ap sum_of c.zero-totals.ensures ∙ sum_of-totals_of (λ o. 0) in
    omega (arith, zero, c.dead_weight.ensures.value, c.dead_weight.ensures.small)

nothing_first : (b : Bool) (n weight dead : ℕ) → n ≡ 0 → weight ≡ dead → n + cond b weight 0 ≡ cond b dead 0
nothing_first true n weight dead e is = omega arith
nothing_first false n weight dead e is = omega arith

pub returns : goal.returns
returns c = λ o.
    ap (λ (t : TotalsData). total_at t o) c.add.ensures.value ∙ total_at-added c.zero-totals.result NoEffect o c.dead_weight.result
    ∙ nothing_first (same_outcome NoEffect o) (total_at c.zero-totals.result o) c.dead_weight.result c.args.list.now.dead
    (ap (λ (t : TotalsData). total_at t o) c.zero-totals.ensures ∙ total_at-totals_of (λ p. 0) o) c.dead_weight.ensures.value
