-- The commands: one row for each, and what is read off it.
use Rattle.std.specs.Prelude.{◌≡◌, ℕ, Bool, true, false, List, [], ◌∷◌, Option, Some, codes, find, map, nat_lt}
use Rattle.std.specs.Str.{bytes_eq}
use Rattle.command_line.specs.declared.commands.Command.{Command}
use Rattle.command_line.specs.declared.commands.Command.TheVariants as command
use Rattle.command_line.specs.declared.commands.Defaults.{Defaults}
use Rattle.command_line.specs.declared.commands.Format.{Format}
use Rattle.command_line.specs.declared.commands.Format.TheVariants.{Text as AsText, Json, Csv}
use Rattle.command_line.specs.declared.commands.OptionSet.{OptionSet}
use Rattle.command_line.specs.declared.commands.OptionSet.TheVariants.{OfCommand, OfCase, OfWindow, OfAnswers}
use Rattle.command_line.specs.declared.commands.Shape.{Shape}

-- the bytes of one word
abbrev pub Text : Type 0
Text = List ℕ

-- The word that names a command; how many files it names: none, IMAGE, IMAGE and KEEP, or these and OTHER; its options,
-- each of which takes a value; its flags, which take none; and the formats that it writes.
pub record ShapeData : Type 0 where
  pub word : Text
  pub files : ℕ
  pub options : List Text
  pub flags : List Text
  pub formats : List Format

abbrev row : Text → ℕ → List Text → List Text → List Format → ShapeData
row word files options flags formats = record { word = word; files = files; options = options; flags = flags; formats = formats }

abbrev pub row_of : Shape → ShapeData
row_of s = row s.word.now s.files (map (λ name. name.now) s.options.now) (map (λ name. name.now) s.flags.now) s.formats.now

-- the options of a case, and then these; and its flags
abbrev case_and : List Text → List Text
case_and others = codes "rom" ∷ codes "ram" ∷ codes "limit" ∷ others

abbrev case_flags : List Text
case_flags = codes "pc" ∷ codes "ram-code" ∷ []

abbrev pub shape_of : Command → ShapeData
shape_of command.Run = row (codes "run") 2
    (case_and (codes "workers" ∷ codes "page" ∷ codes "stop-after" ∷ codes "shard" ∷ codes "format" ∷ [])) (codes "fresh" ∷ case_flags) (AsText ∷ Json ∷ [])
shape_of command.Brute = row (codes "brute") 1 (case_and (codes "format" ∷ [])) case_flags (AsText ∷ Json ∷ [])
shape_of command.Trace = row (codes "trace") 1 (case_and []) (codes "ram-code" ∷ []) (AsText ∷ [])
shape_of command.Plan = row (codes "plan") 1 (case_and (codes "format" ∷ [])) case_flags (AsText ∷ Csv ∷ [])
shape_of command.Report = row (codes "report") 2 (case_and (codes "format" ∷ [])) case_flags (AsText ∷ Json ∷ Csv ∷ [])
shape_of command.Audit = row (codes "audit") 2 (case_and []) case_flags (AsText ∷ [])
shape_of command.Sample = row (codes "sample") 1 (case_and (codes "count" ∷ codes "seed" ∷ [])) (codes "live" ∷ case_flags) (AsText ∷ [])
shape_of command.Merge = row (codes "merge") 3 (case_and (codes "page" ∷ codes "format" ∷ [])) case_flags (AsText ∷ Json ∷ [])
shape_of command.Symbols = row (codes "symbols") 2 (case_and []) case_flags (AsText ∷ [])
shape_of command.Demo = row (codes "demo") 0 (codes "seed" ∷ codes "blocks" ∷ []) [] (AsText ∷ [])

-- the row of these options: those of a command; those of a case, which other programs read after files of their own; those of
-- `fail_window`; or those of `fail_answers`
abbrev pub row_in : OptionSet → ShapeData
row_in (OfCommand c) = shape_of c
row_in OfCase = row (codes "case") 0 (case_and []) case_flags []
row_in OfWindow = row (codes "window") 0 (case_and (codes "workers" ∷ codes "page" ∷ codes "stop-after" ∷ codes "format" ∷ codes "cycles"
    ∷ codes "code" ∷ codes "function" ∷ [])) case_flags []
row_in OfAnswers = row (codes "answers") 0 (case_and (codes "workers" ∷ codes "outcome" ∷ [])) case_flags []

-- the commands, each once
abbrev pub all_commands : List Command
all_commands = command.Run ∷ command.Brute ∷ command.Trace ∷ command.Plan ∷ command.Report ∷ command.Audit ∷ command.Sample ∷ command.Merge
    ∷ command.Symbols ∷ command.Demo ∷ []

abbrev pub command_name : Command → Text
command_name c = (shape_of c).word

-- the command that the word names
unfoldable pub command_named : Text → Option Command
command_named word = find (λ c. bytes_eq (command_name c) word) all_commands

-- each command is the one that its word names: the list has them all, and no two have one word
abbrev pub WordsNameCommands : Type 0
WordsNameCommands = (c : Command) → command_named (command_name c) ≡ Some c

abbrev pub file_count : Command → ℕ
file_count c = (shape_of c).files

-- It reads an image; `demo` makes its own. It names a campaign file after the image, and a second one, which it only reads.
abbrev pub names_image : Command → Bool
names_image c = nat_lt 0 (file_count c)

abbrev pub names_keep : Command → Bool
names_keep c = nat_lt 1 (file_count c)

abbrev pub names_other : Command → Bool
names_other c = nat_lt 2 (file_count c)

-- it writes to its campaign file; `report`, `audit` and `symbols` only read it
abbrev pub writes_keep : Command → Bool
writes_keep command.Run = true
writes_keep command.Merge = true
writes_keep c = false

-- it counts outcomes of flips, and so needs a golden run that halts; `trace` shows any run
abbrev pub needs_halt : Command → Bool
needs_halt command.Trace = false
needs_halt c = true

abbrev regions : ℕ → ℕ → ℕ → Defaults
regions rom ram limit = record { rom = record { base = 0x2000_0000; size = rom }; ram = record { base = 0x8000_0000; size = ram }; limit = limit }

-- where ROM and RAM lie and how many instructions a run may take, unless an option says it: of a generated program, and of an image
abbrev pub defaults_of : OptionSet → Defaults
defaults_of (OfCommand command.Demo) = regions 8192 16 10000
defaults_of set = regions 65536 16384 1000000

abbrev pub format_name : Format → Text
format_name AsText = codes "text"
format_name Json = codes "json"
format_name Csv = codes "csv"

abbrev pub format_named : Command → Text → Option Format
format_named c word = find (λ f. bytes_eq (format_name f) word) (shape_of c).formats
