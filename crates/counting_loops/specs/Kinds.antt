-- What an instruction's effect depends on.
use Rattle.fs_model.specs.declared.instructions.Op.{Op}
use Rattle.fs_model.specs.declared.instructions.Op.TheVariants.{Lui, Auipc, Jal, Jalr, Beq, Bne, Blt, Bge, Bltu, Bgeu}
use Rattle.fs_model.specs.declared.instructions.Op.TheVariants.{Lb, Lh, Lw, Lbu, Lhu, Sb, Sh, Sw, Addi, Slli, Add, Sub}
use Rattle.fs_model.specs.declared.instructions.Op.TheVariants.{Fence, Slt, Sltu, Slti, Sltiu, Andi}
use Rattle.fs_model.specs.declared.instructions.Size.TheVariants.{Byte, Half, Word}
use Rattle.counting_loops.specs.declared.kinds.Kind.{Kind}
use Rattle.counting_loops.specs.declared.kinds.Kind.TheVariants.{Constant, Nothing, AddImmediate, Add as AddKind}
use Rattle.counting_loops.specs.declared.kinds.Kind.TheVariants.{Subtract, ShiftLeft, JumpRegister, Equality, Order}
use Rattle.counting_loops.specs.declared.kinds.Kind.TheVariants.{SignedOrder, Load, Store, Computed}
use Rattle.counting_loops.specs.declared.kinds.Kind.TheVariants.{Test, SignedTest, TestImmediate, SignedTestImmediate, Mask}

abbrev pub op_kind : Op → Kind
op_kind Lui = Constant
op_kind Auipc = Constant
op_kind Jal = Constant
op_kind Fence = Nothing
op_kind Addi = AddImmediate
op_kind Add = AddKind
op_kind Sub = Subtract
op_kind Slli = ShiftLeft
op_kind Jalr = JumpRegister
op_kind Beq = Equality
op_kind Bne = Equality
op_kind Bltu = Order
op_kind Bgeu = Order
op_kind Blt = SignedOrder
op_kind Bge = SignedOrder
op_kind Lb = Load Byte
op_kind Lbu = Load Byte
op_kind Lh = Load Half
op_kind Lhu = Load Half
op_kind Lw = Load Word
op_kind Sb = Store Byte
op_kind Sh = Store Half
op_kind Sw = Store Word
op_kind Sltu = Test
op_kind Slt = SignedTest
op_kind Sltiu = TestImmediate
op_kind Slti = SignedTestImmediate
op_kind Andi = Mask
op_kind op = Computed
