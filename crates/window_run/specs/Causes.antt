-- The cause of each answer of a call of `fail_window`, by its words, its image and its campaign file.
use Rattle.std.specs.Prelude.{◌≡◌, ◌≢◌, ℕ, Bool, List, [], Option, Some, None, Result, Ok, Err}
use Rattle.fs_model.specs.Case.{CaseData}
use Rattle.fs_model.specs.Run.{golden}
use Rattle.golden_trace.specs.declared.good.GoldenFault.{GoldenFault}
use Rattle.golden_trace.specs.Goldens.{IsFault}
use Rattle.elf_symbols.specs.declared.refusals.SymbolRefusal.{SymbolRefusal}
use Rattle.elf_symbols.specs.declared.tables.Symbol.{Symbol}
use Rattle.elf_symbols.specs.Symbols as of_image
use Rattle.window_parts.specs.declared.parts.NoPart.{NoPart}
use Rattle.window_parts.specs.Parts.{HasNoPart, IsPartWindow}
use Rattle.command_line.specs.Commands.{Text}
use Rattle.command_line.specs.Window.{WindowLineData}
use Rattle.phases.specs.Baselines.{Halts}
use Rattle.phases.specs.Loading.{IsBadImage, LoadsBy, symbol_fault}
use Rattle.phases.specs.declared.status.Status.{Status}
use Rattle.phases.specs.declared.status.Status.TheVariants as status
use Rattle.window_run.specs.Call.{WindowCall}
use Rattle.window_run.specs.Ends.{IsWindowEnd}
use Rattle.window_run.specs.declared.status.WindowStatus.{WindowStatus}
use Rattle.window_run.specs.declared.status.WindowStatus.TheVariants.{Ended, Empty}

-- ---- on a case

-- the golden run halts, the part has a window, and the work on its jobs may end so
pub record EndsOnPart (tells : Type 0) (line : WindowLineData) (symbols : List Symbol) (file : List ℕ) (c : CaseData) (answer : Status) : Type 0 where
  pub halts : Halts c
  pub window : List Bool
  pub part : IsPartWindow line.part symbols c window
  pub ends : IsWindowEnd tells line.running.stop_after window file c answer

-- how the work on a case may end
abbrev pub IsPartCause : Type 0 → WindowLineData → List Symbol → List ℕ → CaseData → WindowStatus → Type 0
IsPartCause tells line symbols file c (Ended (status.BadGolden fault)) = IsFault fault c.limit (golden c)
IsPartCause tells line symbols file c (Ended status.NoMemory) = Unit {0}
IsPartCause tells line symbols file c (Ended answer) = EndsOnPart tells line symbols file c answer
IsPartCause tells line symbols file c (Empty why) = Halts c × HasNoPart line.part symbols c why

-- ---- from a line and an image to a case

-- the functions and objects of an image, if the part names a function
abbrev pub symbols_named : Option Text → List ℕ → Result (List Symbol) SymbolRefusal
symbols_named None bytes = Ok []
symbols_named (Some name) bytes = of_image.symbols bytes

-- what these symbols may be refused for
abbrev pub IsSymbolRefusal : Option Text → List ℕ → Status → Type 0
IsSymbolRefusal name bytes (status.BadImage number) = (refusal : SymbolRefusal) × (number ≡ symbol_fault refusal) × (symbols_named name bytes ≡ Err refusal)
IsSymbolRefusal name bytes status.NoMemory = Unit {0}
IsSymbolRefusal name bytes answer = ⊥

-- the words are a line, and the image is that of the case, with these symbols if the part names a function
pub record LoadsPart (call : WindowCall) (c : CaseData) : Type 0 where
  pub settings : WindowLineData
  pub line_is : call.said ≡ Some settings
  pub loads : LoadsBy settings.case call.image c
  pub symbols : List Symbol
  pub symbols_are : symbols_named settings.part.function call.image ≡ Ok symbols

-- the number of what is wrong with the image, or else with its symbols
pub data IsWrongImage (line : WindowLineData) (bytes : List ℕ) (number : ℕ) : Type 0 where
  WrongImage : IsBadImage line.case bytes number → IsWrongImage line bytes number
  WrongSymbols : (refusal : SymbolRefusal) → number ≡ symbol_fault refusal → (c : CaseData) → LoadsBy line.case bytes c
      → symbols_named line.part.function bytes ≡ Err refusal → IsWrongImage line bytes number

-- the words are a line, and the image is refused by this number
pub record RefusesImage (call : WindowCall) (number : ℕ) : Type 0 where
  pub settings : WindowLineData
  pub line_is : call.said ≡ Some settings
  pub wrong : IsWrongImage settings call.image number

-- a case is loaded, and the work on it may end so
pub record EndsOnLoaded (tells : Type 0) (call : WindowCall) (answer : WindowStatus) : Type 0 where
  pub case : CaseData
  pub loads : LoadsPart call case
  pub cause : IsPartCause tells loads.settings loads.symbols call.file case answer

-- ---- answers

-- The cause of each answer, by the words, the image, and the campaign file where its device tells it. Of the causes of Usage, BadImage,
-- BadGolden, Empty, BadKeep, Stopped and Done no two hold at once where the device tells, so each of these comes exactly where its cause
-- holds, unless a device fails or memory runs out.
abbrev pub IsCauseInWindow : Type 0 → WindowCall → WindowStatus → Type 0
IsCauseInWindow tells call (Ended status.Usage) = call.said ≡ None
IsCauseInWindow tells call (Ended status.ReadFault) = call.said ≢ None
IsCauseInWindow tells call (Ended (status.BadImage number)) = RefusesImage call number
IsCauseInWindow tells call (Ended status.NoMemory) = Unit {0}
IsCauseInWindow tells call answer = EndsOnLoaded tells call answer

-- the call answers for the words, the image and the campaign file alone, and not for a device or for memory
abbrev pub IsOwnInWindow : WindowStatus → Type 0
IsOwnInWindow (Ended status.ReadFault) = ⊥
IsOwnInWindow (Ended status.KeepFault) = ⊥
IsOwnInWindow (Ended status.WriteFault) = ⊥
IsOwnInWindow (Ended status.NoMemory) = ⊥
IsOwnInWindow (Ended answer) = Unit {0}
IsOwnInWindow (Empty why) = Unit {0}
