-- What the touches of a step come to, at a rate for each kind of touch: one for each cell, or its bits where it is read.
use Rattle.std.proofs.Common.{ℕ, ◌≡◌, ◌+◌, ◌*◌, ◌≤◌, ◌==◌, ◌&&◌, ◌||◌, Bool, true, false, cond, if◌then◌else◌, Option, Some, None, IfSome, arith, refl}
use Rattle.std.specs.Prelude.{is_none}
use Rattle.std.proofs.lemmas.Bool.Decides.{nat_tests}
use Rattle.fs_model.specs.declared.instructions.Instr.{Instr}
use Rattle.fs_model.specs.declared.instructions.Size.{Size}
use Rattle.fs_model.specs.declared.instructions.Size.TheVariants.{Byte, Half, Word}
use Rattle.fs_model.specs.declared.instructions.Effect.{Effect}
use Rattle.fs_model.specs.declared.instructions.Effect.TheVariants.{Next, Set, Jump, Load, Store}
use Rattle.fs_model.specs.declared.sites.Cell.{Cell}
use Rattle.fs_model.specs.declared.sites.Cell.TheVariants.{Pc, Reg, Ram}
use Rattle.fs_model.specs.Case.{CaseData}
use Rattle.fs_model.specs.Memory.{count_of, is_aligned}
use Rattle.fs_model.specs.Machine.{Core, ram_place, rom_place, code_place, asked, instr_at}
use Rattle.fs_model.specs.Cell.{cell_at, IsNumber}
use Rattle.fs_model.specs.Touch.{access_covers, in_access, fetches_byte, loads_by, stores_by, loads_byte, stores_byte, reads_reg, sets_reg, writes_reg, reads_by, writes_by, reads, writes, touch}
use Rattle.fs_model.proofs.Numbering.{number_is}
use Rattle.fault_space.proofs.AddUp.{AddsUp, none_adds, plus, below, spot, spot_adds, stretch, stretch_adds}
use Rattle.fault_space.proofs.OneSource.{HasOneSource, LoadHasOne, HasOneSource-instr_at}

-- the rate of a register (or the pc) that is read, of a byte that is read, and of either that is written alone
pub record Rates : Type 0 where
  pub read_reg : ℕ
  pub read_byte : ℕ
  pub set_reg : ℕ
  pub set_byte : ℕ

module _ (rates : Rates) where
  unfoldable pub by_read : Cell → ℕ
  by_read Pc = rates.read_reg
  by_read (Reg k) = rates.read_reg
  by_read (Ram d) = rates.read_byte

  unfoldable pub by_write : Cell → ℕ
  by_write Pc = rates.set_reg
  by_write (Reg k) = rates.set_reg
  by_write (Ram d) = rates.set_byte

  unfoldable pub worth : Cell → Option Bool → ℕ
  worth cell None = 0
  worth cell (Some true) = by_read cell
  worth cell (Some false) = by_write cell

  -- at a register that is read, or written: x0 is no cell
  reg_part : ℕ → ℕ → ℕ → ℕ
  reg_part r rate = spot r (cond (r == 0) 0 rate)

  -- at each byte of an access from a place on
  byte_part : Option ℕ → Size → ℕ → ℕ → ℕ
  byte_part (Some p) size rate n = stretch (32 + p) (count_of size) rate n
  byte_part None size rate n = 0

  byte_room : (size : Size) (rate : ℕ) → count_of size * rate ≤ 4 * rate
  byte_room Byte rate = omega arith
  byte_room Half rate = omega arith
  byte_room Word rate = omega arith

  byte_adds : (place : Option ℕ) (size : Size) (rate : ℕ) → AddsUp (byte_part place size rate) (4 * rate)
  unfolding byte_part
  byte_adds (Some p) size rate = below _ (stretch (32 + p) (count_of size) rate) (count_of size * rate) (4 * rate) (λ k. omega arith) (byte_room size rate) (stretch_adds (32 + p) (count_of size) rate)
  byte_adds None size rate = below _ (λ k. 0) 0 (4 * rate) (λ k. omega arith) (omega arith) (none_adds (λ k. 0) (λ k. refl))

  reg_adds : (r rate : ℕ) → AddsUp (reg_part r rate) rate
  unfolding reg_part
  reg_adds r rate = below _ (spot r (cond (r == 0) 0 rate)) (cond (r == 0) 0 rate) rate (λ k. omega arith) (grind (arith, nat_tests)) (spot_adds r (cond (r == 0) 0 rate))

  zero_adds : (r rate : ℕ) → r ≡ 0 → AddsUp (reg_part r rate) 0
  unfolding reg_part
  zero_adds r rate e = below _ (spot r (cond (r == 0) 0 rate)) (cond (r == 0) 0 rate) 0 (λ k. omega arith) (rw e (omega arith)) (spot_adds r (cond (r == 0) 0 rate))

  -- what no step exceeds but for the pc and its own word: two sources and rd, a load, and a store
  pub record Room (m : ℕ) : Type 0 where
    pub registers : rates.read_reg + rates.read_reg + rates.set_reg ≤ m
    pub load : rates.read_reg + rates.set_reg + 4 * rates.read_byte ≤ m
    pub store : rates.read_reg + rates.read_reg + 4 * rates.set_byte ≤ m

  module _ (c : CaseData) (s : Core) where
    -- what an effect touches beside the sources
    effect_part : ℕ → Effect → ℕ → ℕ
    effect_part rd Next n = 0
    effect_part rd (Set v) n = reg_part rd rates.set_reg n
    effect_part rd (Jump link target) n = reg_part rd rates.set_reg n
    effect_part rd (Load size signed at) n = reg_part rd rates.set_reg n + byte_part (ram_place c s size at) size rates.read_byte n
    effect_part rd (Store size at v) n = byte_part (ram_place c s size at) size rates.set_byte n

    sources_part : Instr → ℕ → ℕ
    sources_part i n = reg_part i.rs1 rates.read_reg n + reg_part i.rs2 rates.read_reg n

    instr_part : Option Instr → ℕ → ℕ
    instr_part (Some i) n = sources_part i n + effect_part i.rd (asked s i) n
    instr_part None n = 0

    fetch_part : ℕ → ℕ
    fetch_part n = spot 0 (cond c.pc_cell rates.read_reg 0) n + byte_part (code_place c s) Word rates.read_byte n

    step_part : ℕ → ℕ
    step_part n = fetch_part n + instr_part (instr_at c s) n

    -- ---- the parts add up

    sources_add : (i : Instr) → AddsUp (sources_part i) (rates.read_reg + rates.read_reg)
    unfolding sources_part
    sources_add i = plus (reg_part i.rs1 rates.read_reg) (reg_part i.rs2 rates.read_reg) rates.read_reg rates.read_reg (reg_adds i.rs1 rates.read_reg) (reg_adds i.rs2 rates.read_reg)

    source_adds : (i : Instr) → i.rs2 ≡ 0 → AddsUp (sources_part i) (rates.read_reg + 0)
    unfolding sources_part
    source_adds i e = plus (reg_part i.rs1 rates.read_reg) (reg_part i.rs2 rates.read_reg) rates.read_reg 0 (reg_adds i.rs1 rates.read_reg) (zero_adds i.rs2 rates.read_reg e)

    effect_adds : (i : Instr) (e : Effect) (m : ℕ) → LoadHasOne i.rs2 e → Room m → AddsUp (λ n. sources_part i n + effect_part i.rd e n) m
    unfolding LoadHasOne effect_part
    effect_adds i Next m one room = below _ (sources_part i) (rates.read_reg + rates.read_reg) m (λ k. omega arith) (omega (arith, room.registers)) (sources_add i)
    effect_adds i (Set v) m one room =
        below _ (λ n. sources_part i n + reg_part i.rd rates.set_reg n) (rates.read_reg + rates.read_reg + rates.set_reg) m (λ k. omega arith) room.registers
        (plus (sources_part i) (reg_part i.rd rates.set_reg) (rates.read_reg + rates.read_reg) rates.set_reg (sources_add i) (reg_adds i.rd rates.set_reg))
    effect_adds i (Jump link target) m one room =
        below _ (λ n. sources_part i n + reg_part i.rd rates.set_reg n) (rates.read_reg + rates.read_reg + rates.set_reg) m (λ k. omega arith) room.registers
        (plus (sources_part i) (reg_part i.rd rates.set_reg) (rates.read_reg + rates.read_reg) rates.set_reg (sources_add i) (reg_adds i.rd rates.set_reg))
    effect_adds i (Load size signed at) m one room =
        let place = ram_place c s size at in
        below _ (λ n. sources_part i n + (reg_part i.rd rates.set_reg n + byte_part place size rates.read_byte n)) (rates.read_reg + 0 + (rates.set_reg + 4 * rates.read_byte)) m (λ k. omega arith) (omega (arith, room.load))
        (plus (sources_part i) (λ n. reg_part i.rd rates.set_reg n + byte_part place size rates.read_byte n) (rates.read_reg + 0) (rates.set_reg + 4 * rates.read_byte) (source_adds i one)
        (plus (reg_part i.rd rates.set_reg) (byte_part place size rates.read_byte) rates.set_reg (4 * rates.read_byte) (reg_adds i.rd rates.set_reg) (byte_adds place size rates.read_byte)))
    effect_adds i (Store size at v) m one room =
        let place = ram_place c s size at in
        below _ (λ n. sources_part i n + byte_part place size rates.set_byte n) (rates.read_reg + rates.read_reg + 4 * rates.set_byte) m (λ k. omega arith) room.store
        (plus (sources_part i) (byte_part place size rates.set_byte) (rates.read_reg + rates.read_reg) (4 * rates.set_byte) (sources_add i) (byte_adds place size rates.set_byte))

    instr_adds : (i : Option Instr) (m : ℕ) → IfSome i HasOneSource → Room m → AddsUp (instr_part i) m
    unfolding instr_part
    instr_adds (Some i) m one room = below _ (λ n. sources_part i n + effect_part i.rd (asked s i) n) m m (λ k. omega arith) (omega arith) (effect_adds i (asked s i) m (one.loads s.pc _ _) room)
    instr_adds None m one room = below _ (λ k. 0) 0 m (λ k. omega arith) (omega arith) (none_adds (λ k. 0) (λ k. refl))

    code_adds : (b : Bool) (place : Option ℕ) → AddsUp (byte_part (if b then place else None) Word rates.read_byte) (if b then 4 * rates.read_byte else 0)
    unfolding byte_part
    code_adds true place = byte_adds place Word rates.read_byte
    code_adds false place = none_adds _ (λ k. refl)

    -- what a step comes to at most
    unfoldable pub most : ℕ → ℕ
    most m = (if c.pc_cell then rates.read_reg else 0) + (if c.ram_code then 4 * rates.read_byte else 0) + m

    step_adds : (m : ℕ) → Room m → AddsUp step_part (most m)
    unfolding step_part fetch_part most
    step_adds m room =
        plus fetch_part (instr_part (instr_at c s)) ((if c.pc_cell then rates.read_reg else 0) + (if c.ram_code then 4 * rates.read_byte else 0)) m
        (plus (spot 0 (cond c.pc_cell rates.read_reg 0)) (byte_part (code_place c s) Word rates.read_byte) (if c.pc_cell then rates.read_reg else 0) (if c.ram_code then 4 * rates.read_byte else 0)
        (spot_adds 0 (cond c.pc_cell rates.read_reg 0)) (code_adds c.ram_code (ram_place c s Word s.pc)))
        (instr_adds (instr_at c s) m (HasOneSource-instr_at c s) room)

    -- ---- each touch is one of the parts

    spot_at : (r rate : ℕ) → spot r rate r ≡ rate
    unfolding spot
    spot_at r rate = grind (arith, nat_tests)

    reads_point : (i : Instr) (k : ℕ) → 1 ≤ k → reads_reg (Some i) k ≡ true → rates.read_reg ≤ sources_part i k
    unfolding sources_part reg_part spot
    reads_point i k one h = grind (arith, nat_tests)

    sets_point : (r k : ℕ) → 1 ≤ k → (k == r) ≡ true → rates.set_reg ≤ reg_part r rates.set_reg k
    unfolding reg_part spot
    sets_point r k one h = grind (arith, nat_tests)

    byte_point : (place : Option ℕ) (size : Size) (rate d : ℕ) → access_covers place size d ≡ true → rate ≤ byte_part place size rate (32 + d)
    unfolding byte_part stretch
    byte_point (Some p) size rate d h = grind (arith, nat_tests)
    byte_point None size rate d h = absurd cc

    -- of a cell, by whether the step reads it and whether it writes it
    by_both : Cell → Bool → Bool → ℕ
    by_both cell r x = worth cell (if r then Some true else if x then Some false else None)

    pc_point : (b : Bool) → by_both Pc b false ≤ spot 0 (cond b rates.read_reg 0) 0
    unfolding by_both worth by_read by_write
    pc_point true = omega (arith, spot_at 0 rates.read_reg)
    pc_point false = omega arith

    effect_point : (i : Instr) (e : Effect) (k : ℕ) → 1 ≤ k → (r x : Bool) → reads_reg (Some i) k ≡ r → sets_reg i.rd e k ≡ x → by_both (Reg k) r x ≤ sources_part i k + effect_part i.rd e k
    unfolding by_both worth by_read by_write effect_part
    effect_point i e k one true x h j = omega (arith, reads_point i k one h)
    effect_point i (Set v) k one false true h j = omega (arith, sets_point i.rd k one j)
    effect_point i (Jump link target) k one false true h j = omega (arith, sets_point i.rd k one j)
    effect_point i (Load size signed at) k one false true h j = omega (arith, sets_point i.rd k one j)
    effect_point i e k one false true h j = absurd cc
    effect_point i e k one false false h j = omega arith

    reg_point : (i : Option Instr) (k : ℕ) → 1 ≤ k → by_both (Reg k) (reads_reg i k) (writes_reg s i k) ≤ instr_part i k
    unfolding instr_part by_both worth
    reg_point (Some i) k one = effect_point i (asked s i) k one (reads_reg (Some i) k) (writes_reg s (Some i) k) refl refl
    reg_point None k one = omega arith

    access_point : (size : Size) (at d rate : ℕ) → in_access c s size at d ≡ true → rate ≤ byte_part (ram_place c s size at) size rate (32 + d)
    access_point size at d rate h = by (is_aligned size at) h
      where
        by : (b : Bool) → (b && access_covers (ram_place c s size at) size d) ≡ true → rate ≤ byte_part (ram_place c s size at) size rate (32 + d)
        by true h = byte_point (ram_place c s size at) size rate d h
        by false h = absurd cc

    fetch_point : (d : ℕ) → fetches_byte c s d ≡ true → rates.read_byte ≤ fetch_part (32 + d)
    unfolding fetch_part
    fetch_point d h = by (is_aligned Word s.pc) (is_none (rom_place c Word s.pc)) h
      where
        by : (a b : Bool) → (a && (b && access_covers (code_place c s) Word d)) ≡ true → rates.read_byte ≤ spot 0 (cond c.pc_cell rates.read_reg 0) (32 + d) + byte_part (code_place c s) Word rates.read_byte (32 + d)
        by true true h = omega (arith, byte_point (code_place c s) Word rates.read_byte d h)
        by true false h = absurd cc
        by false b h = absurd cc

    moved_point : (rd : ℕ) (e : Effect) (d : ℕ) (r x : Bool) → loads_by c s e d ≡ r → stores_by c s e d ≡ x → by_both (Ram d) r x ≤ effect_part rd e (32 + d)
    unfolding by_both worth by_read by_write effect_part
    moved_point rd (Load size signed at) d true x h j = omega (arith, access_point size at d rates.read_byte h)
    moved_point rd (Store size at v) d false true h j = omega (arith, access_point size at d rates.set_byte j)
    moved_point rd e d true x h j = absurd cc
    moved_point rd e d false true h j = absurd cc
    moved_point rd e d false false h j = omega arith

    ram_by : (i : Option Instr) (d : ℕ) → by_both (Ram d) (loads_byte c s i d) (stores_byte c s i d) ≤ instr_part i (32 + d)
    unfolding instr_part by_both worth
    ram_by (Some i) d = omega (arith, moved_point i.rd (asked s i) d (loads_byte c s (Some i) d) (stores_byte c s (Some i) d) refl refl)
    ram_by None d = omega arith

    ram_point : (i : Option Instr) (d : ℕ) → by_both (Ram d) (fetches_byte c s d || loads_byte c s i d) (stores_byte c s i d) ≤ fetch_part (32 + d) + instr_part i (32 + d)
    unfolding by_both worth by_read
    ram_point i d = by (fetches_byte c s d) refl
      where
        by : (b : Bool) → fetches_byte c s d ≡ b → by_both (Ram d) (b || loads_byte c s i d) (stores_byte c s i d) ≤ fetch_part (32 + d) + instr_part i (32 + d)
        by true h = omega (arith, fetch_point d h)
        by false h = omega (arith, ram_by i d)

    cell_point : (i : Option Instr) (cell : Cell) (n : ℕ) → IsNumber cell n → by_both cell (reads_by c s i cell) (writes_by c s i cell) ≤ fetch_part n + instr_part i n
    unfolding fetch_part
    cell_point i Pc n is = rw is (omega (arith, pc_point c.pc_cell))
    cell_point i (Reg k) n is = rw (is.0) (omega (arith, reg_point i n is.1))
    cell_point i (Ram d) n is = rw is (omega (arith, ram_point i d))

    touch_point : (n : ℕ) → worth (cell_at n) (touch c s n) ≤ step_part n
    unfolding touch reads writes step_part by_both
    touch_point n = cell_point (instr_at c s) (cell_at n) n (number_is n)

  -- what the touches of a step come to, over cells in a row
  pub touches_add : (c : CaseData) (s : Core) (m : ℕ) → Room m → AddsUp (λ n. worth (cell_at n) (touch c s n)) (most c s m)
  touches_add c s m room = below _ (step_part c s) (most c s m) (most c s m) (touch_point c s) (omega arith) (step_adds c s m room)
