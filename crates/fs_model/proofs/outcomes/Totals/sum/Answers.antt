use Rattle.std.proofs.Common.{◌≡◌, ◌<◌, ◌^◌, ℕ, List, get_or, ap, sym, ◌∙◌, arith}
use Rattle.std.specs.Prelude.{slice_index}
use Rattle.std.proofs.lemmas.List.Sums.{sum_by_more, sum_by_more_le}
use Rattle.fs_model.specs.declared.outcomes.Outcome.TheVariants.{NoEffect}
use Rattle.fs_model.specs.Outcome.{TotalsData, all_outcomes, number_of, sum_of, total_at, totals_in}
use Rattle.fs_model.proofs.EachOutcome.{total_at-totals_in}
use Rattle.fs_model.proofs.outcomes.Totals.sum.Goals as goal

-- the total at the number of the outcome whose turn it is
next : (numbers : List ℕ) (t : TotalsData) (i n : ℕ) → n ≡ number_of (get_or all_outcomes i NoEffect) → totals_in numbers ≡ t → slice_index numbers n ≡ total_at t (get_or all_outcomes i NoEffect)
next numbers t i n at is =
    ap (slice_index numbers) at ∙ sym (total_at-totals_in numbers (get_or all_outcomes i NoEffect)) ∙ ap (λ (u : TotalsData). total_at u (get_or all_outcomes i NoEffect)) is

pub overflow_add-sum : goal.overflow_add-sum
overflow_add-sum c =
    let is = next c.self.inside.numbers c.args.self.now c.loop-outcome.outcome-index c.number.result c.number.ensures c.self.view_is in
    let within = sum_by_more_le (λ o. total_at c.args.self.now o) all_outcomes c.loop-outcome.outcome-index NoEffect (omega arith) in
    let small : sum_of (totals_in c.self.inside.numbers) < 2 ^ 64 = c.self.invariant in
    let same : sum_of (totals_in c.self.inside.numbers) ≡ sum_of c.args.self.now = ap sum_of c.self.view_is in
    record { fits = omega (arith, is, within, small, same, c.loop-outcome.invariant) }

pub loop-outcome-preserved : goal.loop-outcome-preserved
loop-outcome-preserved c =
    let is = next c.self.inside.numbers c.args.self.now c.loop-outcome.outcome-index c.number.result c.number.ensures c.self.view_is in
    let more = sum_by_more (λ o. total_at c.args.self.now o) all_outcomes c.loop-outcome.outcome-index NoEffect (omega arith) in
    omega (arith, is, more, c.loop-outcome.invariant)
