-- What the rows of the matches give by name, with and without the defaults of the flags.
use Rattle.std.proofs.Common.{◌≡◌, Bool, true, false, List, [], ◌∷◌, ◌++◌, map, refl, ap, ◌∙◌, codes}
use Rattle.std.proofs.Math.Path.{fun_ext}
use Rattle.std.specs.Prelude.{Some, None, if◌then◌else◌, option_and_then, option_map, fold, find}
use Rattle.std.specs.Str.{bytes_eq}
use Rattle.clap.specs.Walk.{Row, Rule, has_row, at_row, more_values, with_default}
use Rattle.clap.specs.declared.builder.value_parser.Reading.TheVariants as reading
use Rattle.clap.specs.declared.parser.matches.ValueSource.TheVariants.{DefaultValue}
use Rattle.command_line.specs.Commands.{Text}
use Rattle.command_line.specs.Options.{text_by, texts_in}
use Rattle.command_line.specs.Grammar.{Use, texts_of_uses}
use Rattle.command_line.proofs.Lookups.{flag_built, option_built, rules}
use Rattle.command_line.proofs.Rows.{at_row_missing, row_of_use}

-- the text of a name, in the rows of the uses
text_of_use : (us : List Use) (name : Text) → texts_in (map row_of_use us) name ≡ texts_of_uses us name
unfolding texts_in
text_of_use [] name = refl
text_of_use (u ∷ us) name =
    elim (bytes_eq u.name name) as (λ (b : Bool). option_and_then (λ (r : Row). text_by r.source r.values)
    (if b then Some (row_of_use u) else find (λ r. bytes_eq r.id name) (map row_of_use us))
    ≡ option_map (λ (x : Use). x.value) (if b then Some u else find (λ x. bytes_eq x.name name) us))
    [ true ↦ refl | false ↦ text_of_use us name ]

pub texts_same : (us : List Use) → texts_in (map row_of_use us) ≡ texts_of_uses us
texts_same us = fun_ext (text_of_use us)

-- an option has no default
option_default : (n : Text) (rows : List Row) → with_default rows (option_built n) ≡ rows
option_default n rows = elim (has_row n rows) as (λ (b : Bool). (if b then rows else rows) ≡ rows) [ true ↦ refl | false ↦ refl ]

options_default : (ns : List Text) (rest : List Rule) (rows : List Row) → fold with_default rows (map option_built ns ++ rest) ≡ fold with_default rows rest
options_default [] rest rows = refl
options_default (n ∷ ns) rest rows = ap (λ s. fold with_default s (map option_built ns ++ rest)) (option_default n rows) ∙ options_default ns rest rows

-- the row of a flag that was not given
abbrev default_row : Text → Row
default_row flag = record { id = flag; values = codes "false" ∷ []; count = None; source = Some DefaultValue; reading = reading.AsWritten }

-- that row at the end gives no text
text_past : (flag : Text) (rows : List Row) (name : Text) → texts_in (rows ++ default_row flag ∷ []) name ≡ texts_in rows name
unfolding texts_in
text_past flag [] name =
    elim (bytes_eq flag name) as (λ (b : Bool). option_and_then (λ (r : Row). text_by r.source r.values) (if b then Some (default_row flag) else None) ≡ None)
    [ true ↦ refl | false ↦ refl ]
text_past flag (x ∷ rows) name =
    elim (bytes_eq x.id name) as (λ (b : Bool). option_and_then (λ (r : Row). text_by r.source r.values)
    (if b then Some x else find (λ r. bytes_eq r.id name) (rows ++ default_row flag ∷ []))
    ≡ option_and_then (λ (r : Row). text_by r.source r.values) (if b then Some x else find (λ r. bytes_eq r.id name) rows))
    [ true ↦ refl | false ↦ text_past flag rows name ]

flag_default : (flag : Text) (rows : List Row) → texts_in (with_default rows (flag_built flag)) ≡ texts_in rows
flag_default flag rows =
    elim (has_row flag rows) as (λ (b : Bool). has_row flag rows ≡ b
    → texts_in (if b then rows else at_row flag (more_values DefaultValue (codes "false" ∷ [])) (default_row flag ∷ []) rows) ≡ texts_in rows) [
      | true ↦ λ _. refl
      | false ↦ λ h. ap texts_in (at_row_missing flag (more_values DefaultValue (codes "false" ∷ [])) (default_row flag ∷ []) rows h) ∙ fun_ext (text_past flag rows)
    ] refl

flags_default : (flags : List Text) (rows : List Row) → texts_in (fold with_default rows (map flag_built flags)) ≡ texts_in rows
flags_default [] rows = refl
flags_default (flag ∷ flags) rows = flags_default flags (with_default rows (flag_built flag)) ∙ flag_default flag rows

-- the defaults give no text
pub texts_finished : (ns flags : List Text) (rows : List Row) → texts_in (fold with_default rows (rules ns flags)) ≡ texts_in rows
texts_finished ns flags rows = ap texts_in (options_default ns (map flag_built flags) rows) ∙ flags_default flags rows
