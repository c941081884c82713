-- Which words are a line of `fail_star`, or of `fail_export`, and what it says.
use Rattle.std.specs.Prelude.{◌==◌, ◌&&◌, ◌+◌, ℕ, Bool, true, not, List, [], ◌∷◌, ◌++◌, length, take, drop, Option}
use Rattle.std.specs.Prelude.{Some, None, if◌then◌else◌, nat_le, option_and_then, option_map}
use Rattle.std.specs.List.{list_all}
use Rattle.command_line.specs.Commands.{command_named, file_count}
use Rattle.command_line.specs.Options.{takes_words, texts_given}
use Rattle.command_line.specs.Ranges.{export_files}
use Rattle.command_line.specs.declared.commands.Command.{Command}
use Rattle.command_line.specs.declared.commands.OptionSet.{OptionSet}
use Rattle.command_line.specs.declared.commands.OptionSet.TheVariants.{OfCommand, OfCase}
pub use Rattle.command_line.specs.Commands.{Text}
pub use Rattle.command_line.specs.Request.{RequestData, case_in, command_in, request_of, said}
pub use Rattle.command_line.specs.Said.{CaseLineData, Texts, case_of, case_said}

-- the words after the first `place` words and n files, with the program's name put first
abbrev pub option_words : ℕ → ℕ → List Text → List Text
option_words place n words = take 1 words ++ drop (place + n) words

-- a file is named by a word that does not begin with a hyphen, 45
abbrev pub is_file_word : Text → Bool
is_file_word [] = true
is_file_word (byte ∷ rest) = not (byte == 45)

-- the words of n files after the first `place` words, if they are there
abbrev pub files_in : ℕ → ℕ → List Text → Option (List Text)
files_in place n words =
    if nat_le (place + n) (length words) && list_all is_file_word (take n (drop place words))
    then Some (take n (drop place words)) else None

-- what was given of these options, where `clap` takes the words
abbrev pub given : OptionSet → List Text → Option Texts
given set words = if takes_words set words then Some (texts_given set words) else None

-- the words of n files after the first `place` words, and what was given of these options after them
abbrev pub given_after : OptionSet → ℕ → ℕ → List Text → Option (List Text × Texts)
given_after set place n words =
    option_and_then (λ files. option_map (λ texts. (files, texts)) (given set (option_words place n words)))
    (files_in place n words)

-- n files after the first `place` words, and then the options of a case
abbrev pub case_from : ℕ → ℕ → List Text → Option CaseLineData
case_from place n words = option_and_then (λ asked. case_said OfCase asked.0 asked.1) (given_after OfCase place n words)

-- the files of a command follow the program's name and the command's word
abbrev pub line_of : Command → List Text → Option RequestData
line_of c words = option_and_then (λ asked. said c asked.0 asked.1) (given_after (OfCommand c) 2 (file_count c) words)

-- what the words say, the program's name first, if they are a line
abbrev pub line : List Text → Option RequestData
line [] = None
line (program ∷ []) = None
line (program ∷ word ∷ rest) = option_and_then (λ c. line_of c (program ∷ word ∷ rest)) (command_named word)

-- what the words of `fail_export` say, its name first, if they are a line: IMAGE, KEEP and DB, and then the options of a case
abbrev pub export_line : List Text → Option CaseLineData
export_line words = case_from 1 export_files words
