use Rattle.std.proofs.Common.{refl, arith}
use Rattle.def_use.proofs.Lives.{live_next}
use Rattle.def_use.proofs.live_sites.place_of_live.Goals as goal

pub returns-then-left-live : goal.returns-then-left-live
returns-then-left-live c =
    let here = c.loop-place.invariant.before in
    let next = live_next c.args.reads.now c.loop-place.place _ c.loop-place-test.true refl in
    record { inside = c.loop-place-test.true; before = here; above = omega (arith, here, next.0, c.live_at-live.ensures.value, c.if-left-live.true) }

pub loop-place-preserved : goal.loop-place-preserved
loop-place-preserved c =
    let next = live_next c.args.reads.now c.loop-place.place _ c.loop-place-test.true refl in
    record {
      inside = omega (arith, c.loop-place-test.true);
      before = omega (arith, c.loop-place.invariant.before, next.0, c.live_at-live.ensures.value, c.if-left-live.false);
    }
