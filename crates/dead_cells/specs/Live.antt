-- Registers that are written before they are read, whatever way a run takes from a pc on.
use Rattle.std.specs.Prelude.{◌≡◌, ℕ, ◌<◌, ◌≤◌, ◌&&◌, ◌==◌, Bool, true, false, not, Some, None}
use Rattle.fs_model.specs.declared.instructions.Instr.{Instr}
use Rattle.fs_model.specs.declared.instructions.Op.{Op}
use Rattle.fs_model.specs.declared.instructions.Op.TheVariants.{Jal, Jalr, Beq, Bne, Blt, Bge, Bltu, Bgeu, Sb, Sh, Sw, Fence}
use Rattle.fs_model.specs.declared.instructions.Size.TheVariants.{Word}
use Rattle.fs_model.specs.Event.{GoesOn}
use Rattle.fs_model.specs.Case.{CaseData}
use Rattle.fs_model.specs.Word.{plus}
use Rattle.fs_model.specs.Decode.{decode}
use Rattle.fs_model.specs.Memory.{is_aligned, number_at}
use Rattle.fs_model.specs.Machine.{Core, IsCore, rom_place, turn, reg}
use Rattle.fs_model.specs.Touch.{reads, writes, reads_reg}
use Rattle.fs_model.specs.Run.{State, ending}

-- for a pc and a register whether it is live there
abbrev pub Liveness : Type 0
Liveness = ℕ → ℕ → Bool

-- a step does not read a register that is not live at its pc, and where it goes on and does not write it, the register is not live there
pub record IsLiveness (c : CaseData) (live : Liveness) : Type 0 where
  pub unread : (s : Core) (k : ℕ) → 1 ≤ k → k < 32 → live s.pc k ≡ false → reads c s k ≡ false
  pub kept : (s : Core) (k : ℕ) → 1 ≤ k → k < 32 → live s.pc k ≡ false → GoesOn (turn c s).event → writes c s k ≡ false → live (turn c s).core.pc k ≡ false

-- two machines of a case that hold the same, but for registers that are not live
pub record SameLive (c : CaseData) (live : Liveness) (s g : Core) : Type 0 where
  pub is_core : IsCore c s
  pub other_core : IsCore c g
  pub pc : s.pc ≡ g.pc
  pub ram : s.ram ≡ g.ram
  pub regs : (k : ℕ) → 1 ≤ k → k < 32 → live g.pc k ≡ true → reg s k ≡ reg g k

-- runs from such states that sent the same end alike
abbrev pub LiveEnd : Type 0
LiveEnd = (c : CaseData) (live : Liveness) (s g : State) (k : ℕ) → IsLiveness c live
    → SameLive c live s.core g.core → s.output ≡ g.output → ending c k s ≡ ending c k g

-- ---- a liveness of the words in ROM

-- the instruction sets rd
abbrev pub sets_rd : Op → Bool
sets_rd Beq = false
sets_rd Bne = false
sets_rd Blt = false
sets_rd Bge = false
sets_rd Bltu = false
sets_rd Bgeu = false
sets_rd Sb = false
sets_rd Sh = false
sets_rd Sw = false
sets_rd Fence = false
sets_rd op = true

-- the register is not live wherever the instruction at pc may go on
abbrev pub idle_after : Liveness → Op → ℕ → ℕ → ℕ → Bool
idle_after live Jal imm pc k = not (live (plus pc imm) k)
idle_after live Jalr imm pc k = false
idle_after live Beq imm pc k = not (live (plus pc imm) k) && not (live (plus pc 4) k)
idle_after live Bne imm pc k = not (live (plus pc imm) k) && not (live (plus pc 4) k)
idle_after live Blt imm pc k = not (live (plus pc imm) k) && not (live (plus pc 4) k)
idle_after live Bge imm pc k = not (live (plus pc imm) k) && not (live (plus pc 4) k)
idle_after live Bltu imm pc k = not (live (plus pc imm) k) && not (live (plus pc 4) k)
idle_after live Bgeu imm pc k = not (live (plus pc imm) k) && not (live (plus pc 4) k)
idle_after live op imm pc k = not (live (plus pc 4) k)

-- What one pass over the ROM checks: all registers are live outside of it, and one that is not live at a word is not read there, and either
-- set there or not live at any word that may follow.
pub record IsRomLiveness (c : CaseData) (live : Liveness) : Type 0 where
  pub outside : (pc k : ℕ) → 1 ≤ k → k < 32 → rom_place c Word pc ≡ None → live pc k ≡ true
  pub inside : (pc p k : ℕ) (i : Instr) → is_aligned Word pc ≡ true → rom_place c Word pc ≡ Some p
      → decode (number_at Word c.rom p) ≡ Some i → 1 ≤ k → k < 32 → live pc k ≡ false →
      (reads_reg (Some i) k ≡ false) × ((sets_rd i.op && k == i.rd) ≡ false → idle_after live i.op i.imm pc k ≡ true)

abbrev pub RomLiveness : Type 0
RomLiveness = (c : CaseData) (live : Liveness) → IsRomLiveness c live → IsLiveness c live
