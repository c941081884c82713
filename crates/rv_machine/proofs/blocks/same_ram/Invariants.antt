use Rattle.std.proofs.Common.{◌-◌, length}
use Rattle.rv_machine.proofs.Marks.{Compared}
use Rattle.rv_machine.proofs.blocks.same_ram.Given as goal

abbrev pub invariant-loop-at : goal.invariant-loop-at
invariant-loop-at l = Compared l.ram l.other l.at

abbrev pub decreases-loop-at : goal.decreases-loop-at
decreases-loop-at l = length l.ram - l.at
