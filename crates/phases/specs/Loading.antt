-- From a line and an image to a case.
use Rattle.std.specs.Prelude.{◌≡◌, ℕ, ◌<◌, ◌≤◌, List, [], length, Result, Ok, Err}
use Rattle.fs_model.specs.Case.{CaseData}
use Rattle.command_line.specs.Line.{CaseLineData, RequestData, case_in}
use Rattle.command_line.specs.Request as request
use Rattle.elf_loader.specs.declared.faults.ImageFault.{ImageFault}
use Rattle.elf_loader.specs.Numbers.{fault_number}
use Rattle.elf_loader.specs.Image.{image}
use Rattle.elf_symbols.specs.declared.refusals.SymbolRefusal.{SymbolRefusal}
use Rattle.elf_symbols.specs.declared.refusals.SymbolRefusal.TheVariants.{BadSections, BadName, NoMemory}
use Rattle.elf_symbols.specs.declared.tables.Symbol.{Symbol}
use Rattle.elf_symbols.specs.Symbols.{symbols}
use Rattle.phases.specs.Demo.{demo_image}
use Rattle.phases.specs.declared.status.Status.{Status}
use Rattle.phases.specs.declared.status.Status.TheVariants as status

-- the bytes of the image that a line asks for: what is read, or what `demo` makes
abbrev pub image_bytes : RequestData → List ℕ → List ℕ
image_bytes (request.Demo case program) read = demo_image program.seed program.blocks
image_bytes settings read = read

-- the longest image that is read, in bytes
abbrev pub max_image : ℕ
max_image = 16777216

-- the case whose pc is a cell exactly if the line has `--pc`, and whose code may be in RAM exactly if it has `--ram-code`
abbrev pub flagged : CaseLineData → CaseData → CaseData
flagged asked c = record c { pc_cell = asked.pc_cell; ram_code = asked.ram_code }

-- by the line's map and limit these bytes are the image of a bare case; with the line's flags that is the case
pub record LoadsBy (asked : CaseLineData) (bytes : List ℕ) (c : CaseData) : Type 0 where
  pub fits : length bytes ≤ max_image
  pub bare : CaseData
  pub image_is : image bytes asked.map asked.limit ≡ Ok bare
  pub case_is : c ≡ flagged asked bare

-- the number of the image's first fault: 12 if it is too long, else that of what the loader found
pub data IsBadImage (asked : CaseLineData) (bytes : List ℕ) (number : ℕ) : Type 0 where
  TooLong : number ≡ 12 → max_image < length bytes → IsBadImage asked bytes number
  Faulty : (fault : ImageFault) → number ≡ fault_number fault → length bytes ≤ max_image
      → image bytes asked.map asked.limit ≡ Err fault → IsBadImage asked bytes number

-- the functions and objects of an image, if the command reports by them
abbrev pub symbols_by : RequestData → List ℕ → Result (List Symbol) SymbolRefusal
symbols_by (request.Symbols case) bytes = symbols bytes
symbols_by settings bytes = Ok []

-- the number of what is wrong with them; a lack of memory is not the image's fault
abbrev pub symbol_fault : SymbolRefusal → ℕ
symbol_fault BadSections = 13
symbol_fault BadName = 14
symbol_fault NoMemory = 0

-- the number of what is wrong with the image, or else with its symbols
pub data IsRefusedBy (settings : RequestData) (bytes : List ℕ) (number : ℕ) : Type 0 where
  BadImage : IsBadImage (case_in settings) bytes number → IsRefusedBy settings bytes number
  BadSymbols : (refusal : SymbolRefusal) → number ≡ symbol_fault refusal → (c : CaseData) → LoadsBy (case_in settings) bytes c
      → symbols_by settings bytes ≡ Err refusal → IsRefusedBy settings bytes number

-- what an image may be refused for
abbrev pub IsImageCause : CaseLineData → List ℕ → Status → Type 0
IsImageCause asked bytes (status.BadImage number) = IsBadImage asked bytes number
IsImageCause asked bytes status.ReadFault = Unit {0}
IsImageCause asked bytes status.NoMemory = Unit {0}
IsImageCause asked bytes answer = ⊥

-- what the symbols of an image may be refused for
abbrev pub IsSymbolCause : RequestData → List ℕ → Status → Type 0
IsSymbolCause settings bytes (status.BadImage number) = (refusal : SymbolRefusal) × (number ≡ symbol_fault refusal) × (symbols_by settings bytes ≡ Err refusal)
IsSymbolCause settings bytes status.NoMemory = Unit {0}
IsSymbolCause settings bytes answer = ⊥
