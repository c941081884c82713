-- The part of a golden run, or why it has no instruction.
use Rattle.std.specs.Prelude.{◌≡◌, ◌<◌, Bool, List, length}
use Rattle.fs_model.specs.Case.{CaseData}
use Rattle.fs_model.specs.Run.{cycles}
use Rattle.elf_symbols.specs.declared.tables.Symbol.{Symbol}
use Rattle.command_line.specs.Parts.{PartData}
use Rattle.window_counts.specs.Windows.{window_len}
use Rattle.window_parts.specs.Members.{no_part, part_window}
use Rattle.window_parts.specs.declared.parts.NoPart.{NoPart}
use Rattle.window_parts.specs.declared.parts.PartRefusal.{PartRefusal}
use Rattle.window_parts.specs.declared.parts.PartRefusal.TheVariants.{Nothing, NoMemory}

-- the window has exactly the instructions of the part, of which there is one at least
pub record IsPartWindow (part : PartData) (symbols : List Symbol) (c : CaseData) (window : List Bool) : Type 0 where
  pub window_is : window ≡ part_window part symbols c
  pub cycles_are : length window ≡ cycles c
  pub some : 0 < window_len window

-- no instruction is in the part, for this reason
pub record HasNoPart (part : PartData) (symbols : List Symbol) (c : CaseData) (why : NoPart) : Type 0 where
  pub none : window_len (part_window part symbols c) ≡ 0
  pub why_is : why ≡ no_part part symbols (cycles c)

-- a refusal is for no instruction, or for want of memory
abbrev pub IsPartRefusal : PartData → List Symbol → CaseData → PartRefusal → Type 0
IsPartRefusal part symbols c (Nothing why) = HasNoPart part symbols c why
IsPartRefusal part symbols c NoMemory = Unit {0}
