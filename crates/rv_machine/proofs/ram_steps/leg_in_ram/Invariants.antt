use Rattle.rv_machine.specs.Cores.{core_with}
use Rattle.rv_machine.proofs.Loops.{IsInRam}
use Rattle.rv_machine.proofs.ram_steps.leg_in_ram.Given as goal

abbrev pub invariant-steps : goal.invariant-steps
invariant-steps l = IsInRam l.view (core_with l.fn.pc l.fn.regs l.fn.ram) l.most (core_with l.at l.regs l.ram) l.marks l.left

abbrev pub decreases-steps : goal.decreases-steps
decreases-steps l = l.left
