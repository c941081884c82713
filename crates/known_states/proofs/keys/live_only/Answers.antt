use Rattle.std.proofs.Common.{◌<◌, ◌≢◌, ◌∙◌, length, arith, get_or-set_other, get_or-set_same, below_more}
use Rattle.std.proofs.Math.ListN.{length-set}
use Rattle.known_states.proofs.keys.live_only.Goals as goal

pub loop-k-preserved : goal.loop-k-preserved
loop-k-preserved c =
    let size = c.loop-k.invariant.size in
    let low : c.loop-k.k < length c.loop-k.kept = omega arith in
    record {
      size = length-set c.loop-k.kept c.loop-k.k c.if_live.result ∙ size;
      below = below_more _ _
          (λ i h. let ne : i ≢ c.loop-k.k = omega arith in rw get_or-set_other (c.loop-k.invariant.below i h))
          (rw get_or-set_same c.if_live.ensures);
    }
