-- Tables of lines.
use Rattle.std.specs.Prelude.{ℕ, ◌≡◌, ◌+◌, ◌*◌, ◌<◌, ◌≤◌, Bool, true, List, length, Option, Some, None, slice_index}
use Rattle.fs_model.specs.Case.{CaseData}
use Rattle.fs_model.specs.Cell.{cell_at}
use Rattle.elf_symbols.specs.declared.tables.Symbol.{Symbol}
use Rattle.report.specs.declared.symbol_runs.Run.{Run}
use Rattle.report.specs.Symbols.{cell_line, owner_line, symbol_at}

-- the lines of addresses from one on, each `step` bytes after the one before it
abbrev pub AreLines : Bool → List Symbol → ℕ → ℕ → List ℕ → Type 0
AreLines function symbols base step lines = (i : ℕ) → i < length lines → slice_index lines i ≡ owner_line function symbols (base + step * i)

-- the addresses from this one on, up to the end of the run, have its line
abbrev pub IsRun : Bool → List Symbol → ℕ → Run → Type 0
IsRun function symbols at run = (x : ℕ) → at ≤ x → x < run.end → run.line ≡ owner_line function symbols x

-- a place after an address, before which none of the first n symbols begins or ends after that address
pub record IsEdge (symbols : List Symbol) (n at edge : ℕ) : Type 0 where
  pub behind : at < edge
  pub begins : (i : ℕ) → i < n → at < (symbol_at symbols i).value → edge ≤ (symbol_at symbols i).value
  pub ends : (i : ℕ) → i < n → at < (symbol_at symbols i).value + (symbol_at symbols i).size → edge ≤ (symbol_at symbols i).value + (symbol_at symbols i).size

-- what a table of words from a base on has for an address, if it has the address
abbrev pub IsTableEntry : ℕ → List ℕ → ℕ → Option ℕ → Type 0
IsTableEntry base lines at None = Unit {0}
IsTableEntry base lines at (Some line) = (i : ℕ) × (at ≡ base + 4 * i) × (i < length lines) × (slice_index lines i ≡ line)

-- the lines of functions that these addresses belong to
pub record AreLinesOf (symbols : List Symbol) (pcs lines : List ℕ) : Type 0 where
  pub as_many : length lines ≡ length pcs
  pub each : (t : ℕ) → t < length pcs → slice_index lines t ≡ owner_line true symbols (slice_index pcs t)

-- the lines of the registers, and of the bytes of RAM by their objects
pub record AreCellLines (c : CaseData) (symbols : List Symbol) (lines : List ℕ) : Type 0 where
  pub as_many : length lines ≡ 32 + length c.ram
  pub each : (cell : ℕ) → cell < 32 + length c.ram → slice_index lines cell ≡ cell_line c symbols (cell_at cell)
