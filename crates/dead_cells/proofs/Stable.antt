-- A cell that a step does not read does not matter to which cells the step reads and writes.
use Rattle.std.proofs.Common.{ℕ, ◌≡◌, ◌≢◌, ◌≤◌, ◌||◌, false, Option, Some, None, arith, refl, ap, ◌∙◌}
use Rattle.std.proofs.lemmas.Bool.{or_parts}
use Rattle.fs_model.specs.declared.instructions.Instr.{Instr}
use Rattle.fs_model.specs.declared.instructions.Size.{Size}
use Rattle.fs_model.specs.declared.instructions.Effect.{Effect}
use Rattle.fs_model.specs.declared.instructions.Effect.TheVariants.{Next, Set, Jump, Load, Store}
use Rattle.fs_model.specs.declared.sites.Cell.{Cell}
use Rattle.fs_model.specs.declared.sites.Cell.TheVariants.{Pc, Reg, Ram}
use Rattle.fs_model.specs.Case.{CaseData}
use Rattle.fs_model.specs.Memory.{count_of}
use Rattle.fs_model.specs.Machine.{Core, asked, decoded, instr_at}
use Rattle.fs_model.specs.Cell.{cell_at, IsNumber, with_held, with_cell}
use Rattle.fs_model.specs.Touch.{in_access, fetches_byte, loads_by, stores_by, reads_reg, reads_by, writes_by, reads, writes}
use Rattle.fs_model.proofs.Numbering.{number_is}
use Rattle.fs_model.proofs.Unread.{place_in-set, in_reg, reg_asked, in_byte, byte_fetch}

-- two states from which a step touches the same cells
pub record SameTouches (c : CaseData) (s t : Core) : Type 0 where
  pub same_reads : (cell : ℕ) → reads c s cell ≡ reads c t cell
  pub same_writes : (cell : ℕ) → writes c s cell ≡ writes c t cell

-- ---- a register that the instruction does not read

module _ (c : CaseData) (k v : ℕ) (none : k ≢ 0) where
  reg_loads_by : (s : Core) (e : Effect) (d : ℕ) → loads_by c (in_reg c k v none s) e d ≡ loads_by c s e d
  unfolding in_reg
  reg_loads_by s Next d = refl
  reg_loads_by s (Set x) d = refl
  reg_loads_by s (Jump link target) d = refl
  reg_loads_by s (Load size signed at) d = refl
  reg_loads_by s (Store size at x) d = refl

  reg_stores_by : (s : Core) (e : Effect) (d : ℕ) → stores_by c (in_reg c k v none s) e d ≡ stores_by c s e d
  unfolding in_reg
  reg_stores_by s Next d = refl
  reg_stores_by s (Set x) d = refl
  reg_stores_by s (Jump link target) d = refl
  reg_stores_by s (Load size signed at) d = refl
  reg_stores_by s (Store size at x) d = refl

  reg_reads_by : (s : Core) (i : Option Instr) (p : Cell) → reads_reg i k ≡ false → reads_by c (in_reg c k v none s) i p ≡ reads_by c s i p
  unfolding in_reg
  reg_reads_by s i Pc h = refl
  reg_reads_by s i (Reg r) h = refl
  reg_reads_by s (Some i) (Ram d) h = rw (reg_asked c k v none s i h) (ap (λ b. fetches_byte c s d || b) (reg_loads_by s (asked s i) d))
  reg_reads_by s None (Ram d) h = refl

  reg_writes_by : (s : Core) (i : Option Instr) (p : Cell) → reads_reg i k ≡ false → writes_by c (in_reg c k v none s) i p ≡ writes_by c s i p
  unfolding in_reg
  reg_writes_by s i Pc h = refl
  reg_writes_by s (Some i) (Reg r) h = rw (reg_asked c k v none s i h) refl
  reg_writes_by s None (Reg r) h = refl
  reg_writes_by s (Some i) (Ram d) h = rw (reg_asked c k v none s i h) (reg_stores_by s (asked s i) d)
  reg_writes_by s None (Ram d) h = refl

  reg_stable : (s : Core) → reads_reg (instr_at c s) k ≡ false → SameTouches c (record s { regs = (in_reg c k v none s).regs }) s
  unfolding in_reg reads writes
  reg_stable s h = record {
    same_reads = λ cell. reg_reads_by s (instr_at c s) (cell_at cell) h;
    same_writes = λ cell. reg_writes_by s (instr_at c s) (cell_at cell) h;
  }

-- ---- a byte that the instruction does not read

module _ (c : CaseData) (d v : ℕ) where
  byte_access : (s : Core) (size : Size) (at x : ℕ) → in_access c (in_byte c d v s) size at x ≡ in_access c s size at x
  unfolding in_byte
  byte_access s size at x = rw (place_in-set c.ram_base s.ram d v (count_of size) at) refl

  byte_loads_by : (s : Core) (e : Effect) (x : ℕ) → loads_by c (in_byte c d v s) e x ≡ loads_by c s e x
  byte_loads_by s Next x = refl
  byte_loads_by s (Set y) x = refl
  byte_loads_by s (Jump link target) x = refl
  byte_loads_by s (Load size signed at) x = byte_access s size at x
  byte_loads_by s (Store size at y) x = refl

  byte_stores_by : (s : Core) (e : Effect) (x : ℕ) → stores_by c (in_byte c d v s) e x ≡ stores_by c s e x
  byte_stores_by s Next x = refl
  byte_stores_by s (Set y) x = refl
  byte_stores_by s (Jump link target) x = refl
  byte_stores_by s (Load size signed at) x = refl
  byte_stores_by s (Store size at y) x = byte_access s size at x

  byte_fetches : (s : Core) (x : ℕ) → fetches_byte c (in_byte c d v s) x ≡ fetches_byte c s x
  unfolding in_byte
  byte_fetches s x = rw (place_in-set c.ram_base s.ram d v 4 s.pc) refl

  byte_reads_by : (s : Core) (i : Option Instr) (p : Cell) → reads_by c (in_byte c d v s) i p ≡ reads_by c s i p
  unfolding in_byte
  byte_reads_by s i Pc = refl
  byte_reads_by s i (Reg r) = refl
  byte_reads_by s (Some i) (Ram x) = rw (byte_fetches s x) (ap (λ b. fetches_byte c s x || b) (byte_loads_by s (asked s i) x))
  byte_reads_by s None (Ram x) = ap (λ b. b || false) (byte_fetches s x)

  byte_writes_by : (s : Core) (i : Option Instr) (p : Cell) → writes_by c (in_byte c d v s) i p ≡ writes_by c s i p
  unfolding in_byte
  byte_writes_by s i Pc = refl
  byte_writes_by s (Some i) (Reg r) = refl
  byte_writes_by s None (Reg r) = refl
  byte_writes_by s (Some i) (Ram x) = byte_stores_by s (asked s i) x
  byte_writes_by s None (Ram x) = refl

  byte_stable : (s : Core) → fetches_byte c s d ≡ false → SameTouches c (in_byte c d v s) s
  unfolding reads writes
  byte_stable s h =
      let same : instr_at c (in_byte c d v s) ≡ instr_at c s = ap decoded (byte_fetch c d v s h) in
      record {
        same_reads = λ cell. ap (λ i. reads_by c (in_byte c d v s) i (cell_at cell)) same ∙ byte_reads_by s (instr_at c s) (cell_at cell);
        same_writes = λ cell. ap (λ i. writes_by c (in_byte c d v s) i (cell_at cell)) same ∙ byte_writes_by s (instr_at c s) (cell_at cell);
      }

-- ---- a cell

at_cell : (c : CaseData) (s : Core) (cell v : ℕ) → 1 ≤ cell → (p : Cell) → IsNumber p cell → reads_by c s (instr_at c s) p ≡ false → SameTouches c (with_held s p v) s
unfolding in_reg in_byte
at_cell c s cell v low Pc n h = absurd (let z : cell ≡ 0 = n in omega arith)
at_cell c s cell v low (Reg k) n h =
    let none : k ≢ 0 = (let same : k ≡ cell = n.0 in omega arith) in
    reg_stable c k v none s h
at_cell c s cell v low (Ram d) n h = byte_stable c d v s (or_parts (fetches_byte c s d) _ h).0

pub stable : (c : CaseData) (s : Core) (cell v : ℕ) → 1 ≤ cell → reads c s cell ≡ false → SameTouches c (with_cell s cell v) s
unfolding reads with_cell
stable c s cell v low h = at_cell c s cell v low (cell_at cell) (number_is cell) h
