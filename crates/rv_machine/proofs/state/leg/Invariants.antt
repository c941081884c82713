use Rattle.rv_machine.specs.Blocks.{HasMarks}
use Rattle.rv_machine.specs.Cores.{core_of}
use Rattle.rv_machine.specs.Loops.{IsRest}
use Rattle.rv_machine.proofs.state.leg.Given as goal

abbrev pub invariant-loop-left : goal.invariant-loop-left
invariant-loop-left l = HasMarks l.program.ram l.state.ram.items l.state.marks × IsRest l.program (core_of l.fn.state) l.most (core_of l.state) l.left

abbrev pub decreases-loop-left : goal.decreases-loop-left
decreases-loop-left l = l.left
