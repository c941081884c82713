use Rattle.std.proofs.Common.{◌≡◌, take}
use Rattle.event_core.specs.EventCore.{times_held}
use Rattle.event_core.proofs.lists.holder.Given as goal

abbrev pub invariant-loop-hand : goal.invariant-loop-hand
invariant-loop-hand l = times_held l.job (take l.hand-index l.hands) ≡ 0
