use Rattle.std.proofs.Common.{◌-◌, length}
use Rattle.rv_machine.proofs.Marks.{Copied}
use Rattle.rv_machine.proofs.blocks.take_over.Given as goal

abbrev pub invariant-loop-at : goal.invariant-loop-at
invariant-loop-at l = Copied l.fn.ram l.from l.at l.ram

abbrev pub decreases-loop-at : goal.decreases-loop-at
decreases-loop-at l = length l.from - l.at
