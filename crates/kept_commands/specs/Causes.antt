-- The cause of each answer of a call, by its words, its image and its campaign files.
use Rattle.std.specs.Prelude.{◌≡◌, ◌≢◌, ℕ, Bool, true, false, List, Some, None, Ok}
use Rattle.fs_model.specs.Case.{CaseData}
use Rattle.fs_model.specs.Run.{golden}
use Rattle.golden_trace.specs.declared.good.GoldenFault.{GoldenFault}
use Rattle.golden_trace.specs.Goldens.{IsFault}
use Rattle.command_line.specs.Request.{RequestData, case_in, command_in}
use Rattle.command_line.specs.Commands.{names_keep, names_other, needs_halt}
use Rattle.elf_symbols.specs.declared.tables.Symbol.{Symbol}
use Rattle.phases.specs.Commands.{IsCaseCause, Serves}
use Rattle.phases.specs.Loading.{IsRefusedBy, LoadsBy, image_bytes, symbols_by}
use Rattle.phases.specs.Status.{is_of_keep, is_of_other}
use Rattle.phases.specs.declared.status.Status.{Status}
use Rattle.phases.specs.declared.status.Status.TheVariants as status
use Rattle.kept_commands.specs.Keep.{IsKeepCause, KeepEnds}
use Rattle.kept_commands.specs.Merge.{IsMergeCause, MergeEnds}
use Rattle.kept_commands.specs.Call.{CallData}
use Rattle.kept_commands.specs.Files.{Files}
use Rattle.kept_commands.specs.Words.{fresh_of, portion_asked}

-- ---- from a line and an image to a case

-- the words are a line, and the image that it asks for is that of the case, with these symbols where the command
-- reads them
pub record Loads (call : CallData) (c : CaseData) : Type 0 where
  pub settings : RequestData
  pub line_is : call.said ≡ Some settings
  pub loads : LoadsBy (case_in settings) (image_bytes settings call.image) c
  pub symbols : List Symbol
  pub symbols_are : symbols_by settings (image_bytes settings call.image) ≡ Ok symbols

-- the words are a line, and the image that it asks for is refused by this number
pub record IsRefusedImage (call : CallData) (number : ℕ) : Type 0 where
  pub settings : RequestData
  pub line_is : call.said ≡ Some settings
  pub refused : IsRefusedBy settings (image_bytes settings call.image) number

-- A case is loaded, its golden run serves the command, and the answer is what the campaign files ask for, where the
-- command names one or two and their devices tell them.
pub record IsGoodRun (tells told : Type 0) (call : CallData) (answer : Status) : Type 0 where
  pub case : CaseData
  pub loads : Loads call case
  pub serves : Serves (command_in loads.settings) case
  pub named : is_of_keep answer ≡ true → names_keep (command_in loads.settings) ≡ true
  pub named_other : is_of_other answer ≡ true → names_other (command_in loads.settings) ≡ true
  pub keeps : names_keep (command_in loads.settings) ≡ true → names_other (command_in loads.settings) ≡ false → tells
      → KeepEnds (fresh_of loads.settings) (portion_asked loads.settings) call.files.file case answer
  pub merges : names_other (command_in loads.settings) ≡ true
      → MergeEnds tells told call.files.file call.files.other case answer

-- a case is loaded, and its golden run has this fault, for a command that needs one that halts
pub record IsBadRun (call : CallData) (fault : GoldenFault) : Type 0 where
  pub case : CaseData
  pub loads : Loads call case
  pub needs : needs_halt (command_in loads.settings) ≡ true
  pub faults : IsFault fault case.limit (golden case)

-- ---- answers

-- The cause of each answer, by the words, the image, and the campaign files where their devices tell them. Of the
-- causes of Usage, BadImage, BadGolden, BadOther, BadKeep, Stopped and Done no two hold at once where the devices
-- tell, so each of these comes exactly where its cause holds, unless a device fails or memory runs out.
abbrev pub IsCause : Type 0 → Type 0 → CallData → Status → Type 0
IsCause tells told call status.Usage = call.said ≡ None
IsCause tells told call (status.BadImage number) = IsRefusedImage call number
IsCause tells told call (status.BadGolden fault) = IsBadRun call fault
IsCause tells told call status.ReadFault = call.said ≢ None
IsCause tells told call status.NoMemory = Unit {0}
IsCause tells told call answer = IsGoodRun tells told call answer

-- ---- parts of the work

-- how a command's work on a case may end, by its campaign files where it names one, or two
abbrev pub IsWorkCause : Bool → Bool → Type 0 → Type 0 → RequestData → Files → CaseData → Status → Type 0
IsWorkCause false others tells told settings files c answer = IsCaseCause (command_in settings) c answer
IsWorkCause true false tells told settings files c answer =
    IsKeepCause tells (fresh_of settings) (portion_asked settings) files.file c answer
IsWorkCause true true tells told settings files c answer = IsMergeCause tells told files.file files.other c answer

-- ---- when an answer must come

-- the call answers for the words, the image and the campaign files alone, and not for a device or for memory
abbrev pub IsOwn : Status → Type 0
IsOwn status.Usage = Unit {0}
IsOwn (status.BadImage number) = Unit {0}
IsOwn (status.BadGolden fault) = Unit {0}
IsOwn (status.BadOther reason) = Unit {0}
IsOwn (status.BadKeep refusal) = Unit {0}
IsOwn (status.Stopped kept jobs) = Unit {0}
IsOwn status.Done = Unit {0}
IsOwn answer = ⊥

-- No two answers of this kind have their causes at once, where the devices tell the campaign files.
abbrev pub OneAnswer : Type 0
OneAnswer = (call : CallData) (a b : Status) → IsOwn a → IsOwn b
    → IsCause (Unit {0}) (Unit {0}) call a → IsCause (Unit {0}) (Unit {0}) call b → a ≡ b
