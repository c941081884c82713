use Rattle.std.proofs.Common.{◌+◌, ◌-◌, sym, arith}
use Rattle.std.proofs.lemmas.Option.{slice_get-get_or, slice_get_within}
use Rattle.result_desk.proofs.Search.{low_more, high_more, none}
use Rattle.result_desk.proofs.pages.around.Goals as goal

pub returns-then-not-is_below-clause-low : goal.returns-then-not-is_below-clause-low
returns-then-not-is_below-clause-low c =
    low_more c.args.index.now c.args.near _ c.args.probe.now c.requires (slice_get-get_or c.args.index.now c.args.near none (omega arith)) (sym c.if-is_below.ensures)

pub returns-then-not-is_below-clause-high : goal.returns-then-not-is_below-clause-high
returns-then-not-is_below-clause-high c =
    high_more c.args.index.now (c.args.near + 16) _ c.args.probe.now c.requires (slice_get-get_or c.args.index.now (c.args.near + 16) none (omega arith)) (sym c.if-not-is_below.ensures)

pub returns-then-is_below-clause-low : goal.returns-then-is_below-clause-low
returns-then-is_below-clause-low c =
    low_more c.args.index.now c.args.near _ c.args.probe.now c.requires (slice_get-get_or c.args.index.now c.args.near none (omega arith)) (sym c.if-is_below.ensures)

pub returns-then-is_below-clause-high : goal.returns-then-is_below-clause-high
returns-then-is_below-clause-high c i e late here = let within = slice_get_within c.args.index.now i e here in absurd (omega arith)

pub returns-then-is_below-2-clause-low : goal.returns-then-is_below-2-clause-low
returns-then-is_below-2-clause-low c i e early here =
    low_more c.args.index.now (c.args.near - 1) _ c.args.probe.now c.requires (slice_get-get_or c.args.index.now (c.args.near - 1) none (omega arith)) (sym c.if-is_below-2.ensures) i e (omega arith) here

pub returns-then-is_below-2-clause-high : goal.returns-then-is_below-2-clause-high
returns-then-is_below-2-clause-high c =
    high_more c.args.index.now c.args.near _ c.args.probe.now c.requires (slice_get-get_or c.args.index.now c.args.near none (omega arith)) (sym c.if-is_below.ensures)

pub returns-clause-high : goal.returns-clause-high
returns-clause-high c =
    high_more c.args.index.now c.args.near _ c.args.probe.now c.requires (slice_get-get_or c.args.index.now c.args.near none (omega arith)) (sym c.if-is_below.ensures)
