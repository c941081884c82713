use Rattle.std.proofs.Common.{below_more, sym, arith}
use Rattle.live_registers.proofs.Rom.{covers_more, settled}
use Rattle.live_registers.proofs.fixpoint.is_settled.Goals as goal

pub loop-j-preserved : goal.loop-j-preserved
loop-j-preserved c = below_more _ _ c.loop-j.invariant (covers_more _ _ _ _ _ c.live_at_word.ensures (sym c.if-mask-live_at_word.false))

pub returns : goal.returns
returns c = λ yes. settled c.args.case.now c.args.masks.now c.facts.ensures c.requires (λ j low. c.loop-j.invariant j (omega arith))
