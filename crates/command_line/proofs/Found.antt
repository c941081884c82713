-- What the words gave, by the entries that `clap` found.
use Rattle.std.proofs.Common.{◌≡◌, Bool, true, false, List, [], ◌∷◌, map, refl, sym, ap, ◌∙◌}
use Rattle.std.specs.Prelude.{Option, Some, None, find, if◌then◌else◌, option_and_then, option_map, slice_get}
use Rattle.std.specs.Str.{bytes_eq}
use Rattle.std.specs.Borrow.{Bor}
use Rattle.clap.specs.Facts.{Entry}
use Rattle.clap.specs.Matches.{first_value, matched_of}
use Rattle.clap.specs.Walk.{Row, row_of, rows_of, texts}
use Rattle.clap.specs.declared.parser.matches.Found.{Found}
use Rattle.clap.specs.declared.parser.matches.MatchedArg.{MatchedArg}
use Rattle.clap.specs.declared.parser.matches.ValueSource.{ValueSource}
use Rattle.clap.specs.declared.parser.matches.ValueSource.TheVariants.{CommandLine, DefaultValue}
use Rattle.command_line.specs.Commands.{Text}
use Rattle.command_line.specs.Options.{text_by, texts_in}

-- the text of an entry, where the words gave it
abbrev text_of_entry : Option MatchedArg → Option Text
text_of_entry found = option_and_then (λ (a : MatchedArg). text_by a.source (texts a.vals.items)) found

text_found : (entries : List Entry) (name : Text) → texts_in (map row_of entries) name
    ≡ text_of_entry (option_map (λ (e : Entry). e.1) (find (λ e. bytes_eq e.0.now name) entries))
unfolding texts_in
text_found [] name = refl
text_found (e ∷ entries) name =
    elim (bytes_eq e.0.now name) as (λ (b : Bool). option_and_then (λ (r : Row). text_by r.source r.values)
    (if b then Some (row_of e) else find (λ r. bytes_eq r.id name) (map row_of entries))
    ≡ text_of_entry (option_map (λ (x : Entry). x.1) (if b then Some e else find (λ x. bytes_eq x.0.now name) entries)))
    [ true ↦ refl | false ↦ text_found entries name ]

first_text : (values : List (Bor Text)) → slice_get (texts values) 0 ≡ option_map (λ s. s.now) (slice_get values 0)
first_text [] = refl
first_text (v ∷ values) = refl

entry_given : (found : Option MatchedArg) → option_and_then (λ a. a.source) found ≡ Some CommandLine
    → text_of_entry found ≡ option_and_then (λ a. option_map (λ s. s.now) (slice_get a.vals.items 0)) found
entry_given None e = refl
entry_given (Some a) e = ap (λ (s : Option ValueSource). text_by s (texts a.vals.items)) e ∙ first_text a.vals.items

-- what is read of an entry that the words gave
pub text_given : (f : Found) (name : Text) → option_and_then (λ a. a.source) (matched_of f name) ≡ Some CommandLine
    → first_value f name ≡ texts_in (rows_of f) name
text_given f name e = sym (text_found f.entries.items name ∙ entry_given (matched_of f name) e)

-- what is read of one that has a default alone, and where there is none
default_entry : (found : Option MatchedArg) → option_and_then (λ a. a.source) found ≡ Some DefaultValue → text_of_entry found ≡ None
default_entry None e = refl
default_entry (Some a) e = ap (λ (s : Option ValueSource). text_by s (texts a.vals.items)) e

no_entry : (found : Option MatchedArg) → option_and_then (λ a. a.source) found ≡ None → text_of_entry found ≡ None
no_entry None e = refl
no_entry (Some a) e = ap (λ (s : Option ValueSource). text_by s (texts a.vals.items)) e

pub no_text_of_default : (f : Found) (name : Text) → option_and_then (λ a. a.source) (matched_of f name) ≡ Some DefaultValue → texts_in (rows_of f) name ≡ None
no_text_of_default f name e = text_found f.entries.items name ∙ default_entry (matched_of f name) e

pub no_text : (f : Found) (name : Text) → option_and_then (λ a. a.source) (matched_of f name) ≡ None → texts_in (rows_of f) name ≡ None
no_text f name e = text_found f.entries.items name ∙ no_entry (matched_of f name) e
