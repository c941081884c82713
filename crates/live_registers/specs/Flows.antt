-- Where a run may continue after an instruction.
use Rattle.fs_model.specs.declared.instructions.Op.{Op}
use Rattle.fs_model.specs.declared.instructions.Op.TheVariants.{Jal, Jalr, Beq, Bne, Blt, Bge, Bltu, Bgeu}
use Rattle.live_registers.specs.declared.flows.Flow.{Flow}
use Rattle.live_registers.specs.declared.flows.Flow.TheVariants.{Straight, Jump, Branch, Anywhere}

abbrev pub flow_of : Op → Flow
flow_of Jal = Jump
flow_of Jalr = Anywhere
flow_of Beq = Branch
flow_of Bne = Branch
flow_of Blt = Branch
flow_of Bge = Branch
flow_of Bltu = Branch
flow_of Bgeu = Branch
flow_of op = Straight
