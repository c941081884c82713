-- Steps of a loop, in a later round and in the first one.
use Rattle.std.specs.Prelude.{ℕ, ◌≡◌, ◌+◌, ◌*◌, ◌%◌, ◌^◌, ◌<◌, ◌≤◌, ◌⊎◌, List, length, slice_index_or}
use Rattle.fs_model.specs.declared.instructions.Instr.{Instr}
use Rattle.fs_model.specs.declared.instructions.Size.{Size}
use Rattle.fs_model.specs.declared.instructions.Effect.{Effect}
use Rattle.fs_model.specs.declared.instructions.Effect.TheVariants.{Next, Set, Jump, Load, Store}
use Rattle.fs_model.specs.Case.{CaseData}
use Rattle.fs_model.specs.Event.{GoesOn}
use Rattle.fs_model.specs.Decode.{HasRegisters}
use Rattle.fs_model.specs.Effect.{effect_of}
use Rattle.fs_model.specs.Memory.{count_of}
use Rattle.fs_model.specs.Machine.{Core, apply, reg, turn}
use Rattle.counting_loops.specs.declared.paces.Pace.{Pace}
use Rattle.counting_loops.specs.declared.paces.Pace.TheVariants.{By, Unknown}
use Rattle.counting_loops.specs.declared.words.Held.{Held}
use Rattle.counting_loops.specs.Paces.{MovedBy}
use Rattle.counting_loops.specs.Words.{ram_word, word_pace, IsKnownLoad, AfterStore}

-- ---- addresses

pub record IsInRange (base len count at : ℕ) : Type 0 where
  pub from : base ≤ at
  pub to : at + count ≤ base + len

pub record IsStorable (c : CaseData) (size : Size) (at : ℕ) : Type 0 where
  pub aligned : at % count_of size ≡ 0
  pub within : IsInRange c.ram_base (length c.ram) (count_of size) at

pub record IsReadable (c : CaseData) (size : Size) (at : ℕ) : Type 0 where
  pub aligned : at % count_of size ≡ 0
  pub within : IsInRange c.ram_base (length c.ram) (count_of size) at ⊎ IsInRange c.rom_base (length c.rom) (count_of size) at

-- ---- effects

-- a number with this pace is the same in all rounds, if that holds
abbrev pub FixedIf : Type 0 → Pace → Type 0
FixedIf P pace = (pace ≡ Unknown) ⊎ ((pace ≡ By 0) × P)

-- a load at x, as one at `at` in the first round, gives a number of this pace
abbrev pub LoadStays : CaseData → List Held → Size → ℕ → ℕ → Pace → Type 0
LoadStays c held size at x pace = ((pace ≡ Unknown) × ((x ≡ at) ⊎ IsReadable c size x)) ⊎ ((x ≡ at) × IsKnownLoad c held size at pace)

-- in round i an instruction has an effect like the one that it has in the first round, and what it writes to rd has the pace
abbrev pub Alike : CaseData → List Held → Pace → ℕ → Effect → Effect → Type 0
Alike c held pace i Next e = (pace ≡ Unknown) × (e ≡ Next)
Alike c held pace i (Set v) e = (w : ℕ) × ((e ≡ Set w) × (v < 2 ^ 32 → MovedBy pace i v w))
Alike c held pace i (Jump link target) e = (e ≡ Jump link target) × (link < 2 ^ 32 → MovedBy pace i link link)
Alike c held pace i (Load size signed at) e = (x : ℕ) × ((e ≡ Load size signed x) × LoadStays c held size at x pace)
Alike c held pace i (Store size at v) e = (pace ≡ Unknown) × ((x : ℕ) × ((w : ℕ) × ((e ≡ Store size x w) × ((x ≡ at) ⊎ IsStorable c size x))))

-- what an effect in round i, and the one that it has in the first round, leave of the paces of words
abbrev pub WordsAfter : CaseData → List Held → List Held → ℕ → Effect → Effect → Type 0
WordsAfter c held new i Next e = new ≡ held
WordsAfter c held new i (Set v) e = new ≡ held
WordsAfter c held new i (Jump link target) e = new ≡ held
WordsAfter c held new i (Load size signed at) e = new ≡ held
WordsAfter c held new i (Store size at v) e = (x : ℕ) × ((w : ℕ) × ((e ≡ Store size x w)
    × ((k : ℕ) → 4 * k + 4 ≤ length c.ram → AfterStore c size i at x v w k (word_pace held k) (word_pace new k))))

-- ---- steps

-- the instruction at pc, whatever else the machine holds
pub record IsInstr (c : CaseData) (pc : ℕ) (instr : Instr) : Type 0 where
  pub registers : HasRegisters instr
  pub turns : (s : Core) → s.pc ≡ pc → turn c s ≡ apply c s instr.rd (effect_of instr pc (reg s instr.rs1) (reg s instr.rs2))

-- what the machine holds in round i, where it holds `first` at the same place of the first round
pub record FitsPaces (c : CaseData) (paces : List Pace) (held : List Held) (i : ℕ) (first now : Core) : Type 0 where
  pub pc_is : now.pc ≡ first.pc
  pub regs_length : length now.regs ≡ 32
  pub ram_length : length now.ram ≡ length c.ram
  pub each : (k : ℕ) (d : Pace) → k < 32 → MovedBy (slice_index_or paces k d) i (reg first k) (reg now k)
  pub words : (k : ℕ) → 4 * k + 4 ≤ length c.ram → MovedBy (word_pace held k) i (ram_word first.ram k) (ram_word now.ram k)

-- the step of a later round goes on
pub record RoundGoesOn (c : CaseData) (s : Core) (paces : List Pace) (held : List Held) (i : ℕ) (first : Core) : Type 0 where
  pub event : GoesOn (turn c s).event
  pub fits : FitsPaces c paces held i first (turn c s).core

-- in the rounds up to `last` a step goes on, as it does in the first one
pub record StepStays (c : CaseData) (last : ℕ) (paces : List Pace) (held : List Held) (first : Core)
    (new_paces : List Pace) (new_held : List Held) (next : Core) : Type 0 where
  pub each : (i : ℕ) (s : Core) → i ≤ last → FitsPaces c paces held i first s → RoundGoesOn c s new_paces new_held i next
