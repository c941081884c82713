-- The registers that are live at each word, as masks.
use Rattle.std.specs.Prelude.{ℕ, ◌≡◌, ◌-◌, ◌*◌, ◌+◌, ◌/◌, ◌%◌, ◌<◌, ◌==◌, ◌&&◌, nat_le, Bool, true, false, if◌then◌else◌, Some, List, slice_index_or}
use Rattle.std.specs.Int.{bit_at}
use Rattle.fs_model.specs.declared.instructions.Instr.{Instr}
use Rattle.fs_model.specs.declared.instructions.Size.TheVariants.{Word}
use Rattle.fs_model.specs.Case.{CaseData}
use Rattle.fs_model.specs.Decode.{decode}
use Rattle.fs_model.specs.Memory.{number_at}
use Rattle.fs_model.specs.Touch.{reads_reg}
use Rattle.dead_cells.specs.Live.{Liveness, sets_rd, idle_after}

-- the masks of the words from an address on
pub record LiveData : Type 0 where
  pub base : ℕ
  pub masks : List ℕ

-- the mask in which all registers are live
abbrev pub all_live : ℕ
all_live = 0xffffffff

-- the mask at pc: that of its word, and outside of the words all registers
unfoldable pub mask_at : LiveData → ℕ → ℕ
mask_at l pc = if nat_le l.base pc && (pc - l.base) % 4 == 0 then slice_index_or l.masks ((pc - l.base) / 4) all_live else all_live

-- register k is live at pc where bit k of the mask is 1
unfoldable pub live_of : LiveData → Liveness
live_of l = λ pc k. bit_at (mask_at l pc) k == 1

-- ---- what the check compares

-- the instruction at pc does not read the register, and either sets it or leads only to where it is not live
pub record IsIdleFor (live : Liveness) (i : Instr) (pc k : ℕ) : Type 0 where
  pub unread : reads_reg (Some i) k ≡ false
  pub after : (sets_rd i.op && k == i.rd) ≡ false → idle_after live i.op i.imm pc k ≡ true

-- each register that is 0 in the mask is so for the instruction at pc
abbrev pub CoversInstr : Liveness → Instr → ℕ → ℕ → Type 0
CoversInstr live i pc mask = (k : ℕ) → k < 32 → bit_at mask k ≡ 0 → IsIdleFor live i pc k

-- for the one of word j of ROM
pub record CoversWord (c : CaseData) (live : Liveness) (j mask : ℕ) : Type 0 where
  pub each : (i : Instr) → decode (number_at Word c.rom (4 * j)) ≡ Some i → CoversInstr live i (c.rom_base + 4 * j) mask
