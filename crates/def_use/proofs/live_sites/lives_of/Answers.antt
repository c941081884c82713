use Rattle.std.proofs.Common.{◌+◌, ap, ◌∙◌, arith}
use Rattle.def_use.proofs.Lives.{live_next, block_more, block_same}
use Rattle.def_use.proofs.live_sites.lives_of.Goals as goal
use Rattle.def_use.proofs.live_sites.lives_of.Goals.{then-i-eq0+in_ok-push, else-i-eq0}

pub overflow_add-live : goal.overflow_add-live
overflow_add-live c =
    let next = live_next c.args.reads.now c.loop-i.i c.loop-i.live c.loop-i-test.true c.loop-i.invariant.live in
    omega (arith, next.0, next.1, c.live_at-live.ensures.value, c.requires)

pub loop-i-preserved : goal.loop-i-preserved
loop-i-preserved c =
    let next = live_next c.args.reads.now c.loop-i.i c.loop-i.live c.loop-i-test.true c.loop-i.invariant.live in
    record {
      live = ap (λ n. c.loop-i.live + n) c.live_at-live.ensures.value ∙ next.0;
      blocks = elim c.if-i-eq0.branch [
        | then-i-eq0+in_ok-push w ↦ block_more c.args.reads.now c.loop-i.lives.items c.if-i-eq0.lives.items c.loop-i.i c.loop-i.live c.loop-i.invariant.blocks (rw w.lives-is w.in_ok-push.ensures.items) c.loop-i.invariant.live w.if-i-eq0.true
        | else-i-eq0 w ↦ rw w.lives-is (block_same c.args.reads.now c.loop-i.lives.items c.loop-i.i c.loop-i.invariant.blocks w.if-i-eq0.false)
      ];
    }
