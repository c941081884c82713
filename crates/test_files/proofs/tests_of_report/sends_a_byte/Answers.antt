use Rattle.std.proofs.Common.{◌≡◌, ap, ◌∙◌, arith}
use Rattle.fs_model.specs.Outcome.{TotalsData, no_totals, sum_of}
use Rattle.fs_model.proofs.EachOutcome.{sum_of-totals_of}
use Rattle.test_files.proofs.tests_of_report.sends_a_byte.Goals as goal

nothing : (t : TotalsData) → t ≡ no_totals → sum_of t ≡ 0
nothing t e = ap sum_of e ∙ sum_of-totals_of (λ o. 0)

pub add-requires : goal.add-requires
add-requires c = let none = nothing c.zero-totals.result c.zero-totals.ensures in omega (arith, none)

pub add-requires-2 : goal.add-requires-2
add-requires-2 c = let none = nothing c.zero-totals.result c.zero-totals.ensures in omega (arith, none, c.add.ensures.sum)

pub add-requires-3 : goal.add-requires-3
add-requires-3 c = let none = nothing c.zero-totals.result c.zero-totals.ensures in omega (arith, none, c.add.ensures.sum, c.add-2.ensures.sum)

pub add-requires-4 : goal.add-requires-4
add-requires-4 c = let none = nothing c.zero-totals.result c.zero-totals.ensures in omega (arith, none, c.add.ensures.sum, c.add-2.ensures.sum, c.add-3.ensures.sum)

pub add-requires-5 : goal.add-requires-5
add-requires-5 c =
    let none = nothing c.zero-totals.result c.zero-totals.ensures in
    omega (arith, none, c.add.ensures.sum, c.add-2.ensures.sum, c.add-3.ensures.sum, c.add-4.ensures.sum)
