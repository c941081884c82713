use Rattle.std.proofs.Common.{◌≡◌, ◌+◌, ap, sym, ◌∙◌, arith}
use Rattle.std.proofs.Math.ListN.{set}
use Rattle.std.specs.Prelude.{slice_index}
use Rattle.fs_model.specs.Outcome.{sum_of, added, total_at, totals_in}
use Rattle.fs_model.proofs.EachOutcome.{total_at-totals_in, total_at-le-sum_of, totals_in-set, sum_of-added}
use Rattle.fs_model.proofs.outcomes.Totals.add.Goals as goal

pub overflow_add-self : goal.overflow_add-self
overflow_add-self c =
    let numbers = c.self.inside.numbers in
    let is : slice_index numbers c.number.result ≡ total_at (totals_in numbers) c.args.outcome =
    ap (slice_index numbers) c.number.ensures ∙ sym (total_at-totals_in numbers c.args.outcome) in
    let low = total_at-le-sum_of (totals_in numbers) c.args.outcome in
    let same : sum_of (totals_in numbers) ≡ sum_of c.args.self.now = ap sum_of c.self.view_is in
    record { fits = omega (arith, is, low, same, c.requires) }

pub returns-clause-value : goal.returns-clause-value
returns-clause-value c =
    let numbers = c.self.inside.numbers in
    ap (λ n. totals_in (set numbers n (slice_index numbers n + c.args.weight))) c.number.ensures
    ∙ totals_in-set numbers c.args.outcome c.args.weight c.self.told
    ∙ ap (λ t. added t c.args.outcome c.args.weight) c.self.view_is

pub invariant_of-self : goal.invariant_of-self
invariant_of-self c =
    let numbers = c.self.inside.numbers in
    let is : sum_of (totals_in (set numbers c.number.result (slice_index numbers c.number.result + c.args.weight))) ≡ sum_of c.args.self.now + c.args.weight =
    ap sum_of (returns-clause-value c) ∙ sum_of-added c.args.self.now c.args.outcome c.args.weight in
    omega (arith, is, c.requires)

pub returns-clause-sum : goal.returns-clause-sum
returns-clause-sum c =
    ap sum_of (returns-clause-value c) ∙ sum_of-added c.args.self.now c.args.outcome c.args.weight
