use Rattle.std.proofs.Common.{◌+◌, ◌-◌, ◌/◌, sym, arith}
use Rattle.std.proofs.lemmas.Option.{slice_get-get_or}
use Rattle.result_desk.proofs.Search.{low_more, high_more, none}
use Rattle.result_desk.proofs.pages.before.Goals as goal

pub loop-low-preserved-then-is_below : goal.loop-low-preserved-then-is_below
loop-low-preserved-then-is_below c =
    let i = c.loop-low.invariant in
    let m = c.loop-low.low + (c.loop-low.high - c.loop-low.low) / 2 in record {
      apart = omega arith;
      inside = i.inside;
      below = low_more c.args.index.now m _ c.args.probe.now c.requires (slice_get-get_or c.args.index.now m none (omega (arith, i.inside))) (sym c.if-is_below.ensures);
      above = i.above;
    }

pub loop-low-preserved : goal.loop-low-preserved
loop-low-preserved c =
    let i = c.loop-low.invariant in
    let m = c.loop-low.low + (c.loop-low.high - c.loop-low.low) / 2 in record {
      apart = omega arith;
      inside = omega (arith, i.inside);
      below = i.below;
      above = high_more c.args.index.now m _ c.args.probe.now c.requires (slice_get-get_or c.args.index.now m none (omega (arith, i.inside))) (sym c.if-is_below.ensures);
    }
