-- The options and flags of a row, as `clap` reads them.
use Rattle.std.specs.Prelude.{Bool, true, false, List, [], ◌∷◌, Option, Some, None, find, map, option_and_then, slice_get}
use Rattle.std.specs.Str.{bytes_eq}
use Rattle.command_line.specs.Commands.{Text, row_in}
use Rattle.command_line.specs.Said.{Texts}
use Rattle.command_line.specs.declared.commands.OptionSet.{OptionSet}
use Rattle.clap.specs.Words.{App, Kinds, Row, Rule, fault_of, found_of, matches_of, new_app, new_rule, rows_of, with_rule}
use Rattle.clap.specs.Simple.{on_top}
use Rattle.clap.specs.declared.builder.action.ArgAction.TheVariants.{SetTrue}
use Rattle.clap.specs.declared.parser.matches.ArgMatches.{ArgMatches}
use Rattle.clap.specs.declared.parser.matches.ValueSource.{ValueSource}
use Rattle.clap.specs.declared.parser.matches.ValueSource.TheVariants.{CommandLine}

-- `--NAME VALUE`, at most once
abbrev pub option_rule : Text → Rule
option_rule name = record (new_rule name) { long = Some name }

-- `--NAME`, at most once
abbrev pub flag_rule : Text → Rule
flag_rule name = record (new_rule name) { long = Some name; action = Some SetTrue }

abbrev pub with_rules : App → List Rule → App
with_rules a [] = a
with_rules a (r ∷ rs) = with_rules (with_rule a r) rs

-- a command with no argument, not even `--help`
abbrev pub bare_app : Text → App
bare_app name = on_top (λ s. record s { disable_help_flag = true }) (new_app name)

-- a flat command with these options and flags, all of them long, and none required
abbrev pub app_for : OptionSet → App
app_for set = with_rules (with_rules (bare_app (row_in set).word) (map option_rule (row_in set).options)) (map flag_rule (row_in set).flags)

-- the first of the texts, where they come of the words: a default of `clap` does not count
abbrev pub text_by : Option ValueSource → List Text → Option Text
text_by (Some CommandLine) values = slice_get values 0
text_by _ values = None

-- what the words gave, by the rows of the matches
unfoldable pub texts_in : List Row → Texts
texts_in rows name = option_and_then (λ row. text_by row.source row.values) (find (λ row. bytes_eq row.id name) rows)

-- the same, by the matches
abbrev pub texts_of : ArgMatches → Texts
texts_of matches = texts_in (rows_of (found_of matches))

abbrev pub is_none : Kinds → Bool
is_none [] = true
is_none (k ∷ ks) = false

-- `clap` takes the words, of which the first is the program's name: by its statement it has no fault with them
unfoldable pub takes_words : OptionSet → List Text → Bool
takes_words set words = is_none (fault_of (app_for set) words)

-- the texts that they give
unfoldable pub texts_given : OptionSet → List Text → Texts
texts_given set words = texts_in (matches_of (app_for set) words)
