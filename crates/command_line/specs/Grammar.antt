-- Which words the options of a command may be, spelled out.
use Rattle.std.specs.Prelude.{◌≡◌, ◌==◌, ◌&&◌, ◌+◌, Bool, true, not, List, [], ◌∷◌, ◌++◌, Option, Some, None}
use Rattle.std.specs.Prelude.{if◌then◌else◌, codes, drop, find, option_map, option_and_then}
use Rattle.std.specs.List.{AllByRecursion, list_any}
use Rattle.std.specs.Str.{IsUtf8, bytes_eq}
use Rattle.clap.specs.Lexer.{long_of}
use Rattle.command_line.specs.Commands.{Text, command_named, file_count, row_in}
use Rattle.command_line.specs.Request.{RequestData, said}
use Rattle.command_line.specs.Said.{Texts}
use Rattle.command_line.specs.Line.{files_in, given, line}
use Rattle.command_line.specs.declared.commands.Command.{Command}
use Rattle.command_line.specs.declared.commands.OptionSet.{OptionSet}
use Rattle.command_line.specs.declared.commands.OptionSet.TheVariants.{OfCommand}

-- an option or a flag that was given: its name, and its value, which is `true` for a flag
pub record Use : Type 0 where
  pub name : Text
  pub value : Text

-- the name is one of these
abbrev pub is_among : List Text → Text → Bool
is_among names name = list_any (λ n. bytes_eq n name) names

-- what a word is, where no option waits for its value: `--`; the name of an option, whose value is the next word; an option with
-- its value, or a flag; or none of these
pub data Kind : Type 0 where
  ends : Kind
  opens : Text → Kind
  gives : Use → Kind
  other : Kind

-- `--NAME` and `--NAME=VALUE`, of an option
abbrev pub option_kind : Text → Option Text → Kind
option_kind name None = opens name
option_kind name (Some value) = gives (record { name = name; value = value })

-- `--NAME`, of a flag
abbrev pub flag_kind : Text → Option Text → Kind
flag_kind name None = gives (record { name = name; value = codes "true" })
flag_kind name (Some value) = other

abbrev pub named_kind : List Text → List Text → Text → Option Text → Kind
named_kind options flags name value =
    if is_among options name then option_kind name value
    else (if is_among flags name then flag_kind name value else other)

-- `long_of` cuts `--NAME=VALUE` at its first `=`, and gives none for a word of another form
abbrev pub long_kind : List Text → List Text → Option (Text × Option Text) → Kind
long_kind options flags None = other
long_kind options flags (Some p) = named_kind options flags p.0 p.1

abbrev pub word_kind : List Text → List Text → Text → Kind
word_kind options flags word = if bytes_eq word (codes "--") then ends else long_kind options flags (long_of word)

-- a value in a word of its own begins with no hyphen, 45, or is one hyphen
abbrev pub is_value : Text → Bool
is_value [] = true
is_value (b ∷ []) = true
is_value (b ∷ c ∷ rest) = not (b == 45)

abbrev pub then_use : Use → Option (List Use) → Option (List Use)
then_use u = option_map (λ us. u ∷ us)

-- `--` may stand last
abbrev pub if_last : List Text → Option (List Use)
if_last [] = Some []
if_last (word ∷ rest) = None

abbrev pub after_kind : Kind → List Text → (Option Text → Option (List Use)) → Option (List Use)
after_kind ends rest next = if_last rest
after_kind (opens name) rest next = next (Some name)
after_kind (gives u) rest next = then_use u (next None)
after_kind other rest next = None

-- what the words give, from left to right, where an option may wait for its value
abbrev pub read_words : List Text → List Text → Option Text → List Text → Option (List Use)
read_words options flags None [] = Some []
read_words options flags (Some name) [] = None
read_words options flags None (word ∷ rest) =
    after_kind (word_kind options flags word) rest (λ waiting. read_words options flags waiting rest)
read_words options flags (Some name) (word ∷ rest) =
    if is_value word then then_use (record { name = name; value = word }) (read_words options flags None rest) else None

-- no name comes twice, and none of these comes
abbrev pub are_new : List Text → List Use → Bool
are_new seen [] = true
are_new seen (u ∷ us) = not (is_among seen u.name) && are_new (seen ++ u.name ∷ []) us

-- what the words give, where each name comes once
abbrev pub uses_in : List Text → List Text → List Text → Option (List Use)
uses_in options flags words =
    option_and_then (λ us. if are_new [] us then Some us else None) (read_words options flags None words)

-- what was given, by name
abbrev pub texts_of_uses : List Use → Texts
texts_of_uses us name = option_map (λ u. u.value) (find (λ u. bytes_eq u.name name) us)

-- what `clap` states of any words after the program's name is what is spelled out here
abbrev pub IsSpelledOut : Type 0
IsSpelledOut = (set : OptionSet) (program : Text) (words : List Text) → AllByRecursion IsUtf8 words
    → given set (program ∷ words) ≡ option_map texts_of_uses (uses_in (row_in set).options (row_in set).flags words)

-- what a line of this command says, without `clap`
abbrev pub spelled_of : Command → List Text → Option RequestData
spelled_of c words =
    option_and_then (λ files.
    option_and_then (λ us. said c files (texts_of_uses us))
    (uses_in (row_in (OfCommand c)).options (row_in (OfCommand c)).flags (drop (2 + file_count c) words)))
    (files_in 2 (file_count c) words)

abbrev pub spelled_line : List Text → Option RequestData
spelled_line [] = None
spelled_line (program ∷ []) = None
spelled_line (program ∷ word ∷ rest) = option_and_then (λ c. spelled_of c (program ∷ word ∷ rest)) (command_named word)

-- the line over `clap` is the line spelled out
abbrev pub IsSpelledLine : Type 0
IsSpelledLine = (words : List Text) → AllByRecursion IsUtf8 words → line words ≡ spelled_line words
