-- The rows of the matches, one for each use of an option or a flag.
use Rattle.std.proofs.Common.{◌≡◌, Bool, true, false, not, ◌||◌, ◌&&◌, List, [], ◌∷◌, ◌++◌, map, refl, ap, append-nil, codes}
use Rattle.std.specs.Prelude.{Some, None, if◌then◌else◌}
use Rattle.std.specs.Str.{bytes_eq}
use Rattle.clap.specs.Faults.{use_fault, values_fault}
use Rattle.clap.specs.Kinds.{or_else}
use Rattle.clap.specs.declared.error.kind.ErrorKind.TheVariants as kind
use Rattle.clap.specs.Walk.{Row, at_row, has_row, more_values, used}
use Rattle.clap.specs.declared.builder.value_parser.Reading.TheVariants as reading
use Rattle.clap.specs.declared.parser.matches.ValueSource.TheVariants.{CommandLine}
use Rattle.command_line.specs.Commands.{Text}
use Rattle.command_line.specs.Options.{is_none}
use Rattle.command_line.specs.Grammar.{Use, is_among}
use Rattle.command_line.proofs.Lookups.{flag_built, option_built}

abbrev pub row_of_use : Use → Row
row_of_use u = record { id = u.name; values = u.value ∷ []; count = None; source = Some CommandLine; reading = reading.AsWritten }

abbrev pub names : List Use → List Text
names = map (λ u. u.name)

abbrev pub flag_use : Text → Use
flag_use name = record { name = name; value = codes "true" }

pub row_among : (us : List Use) (id : Text) → has_row id (map row_of_use us) ≡ is_among (names us) id
row_among [] id = refl
row_among (u ∷ us) id = ap (λ b. bytes_eq u.name id || b) (row_among us id)

pub at_row_missing : (id : Text) (change : Row → List Row) (missing rows : List Row) → has_row id rows ≡ false
    → at_row id change missing rows ≡ rows ++ missing
at_row_missing id change missing [] h = refl
at_row_missing id change missing (r ∷ rs) h =
    elim (bytes_eq r.id id) as (λ (b : Bool). (b || has_row id rs) ≡ false
    → (if b then change r ++ rs else r ∷ at_row id change missing rs) ≡ r ∷ (rs ++ missing))
    [ true ↦ λ t. cc | false ↦ λ t. ap (λ s. r ∷ s) (at_row_missing id change missing rs t) ] h

pub used_option : (n v : Text) (rows : List Row) → has_row n rows ≡ false
    → used (option_built n) (v ∷ []) rows ≡ rows ++ row_of_use (record { name = n; value = v }) ∷ []
used_option n v rows h =
    rw (at_row_missing n (λ _. []) [] rows h, append-nil rows) (at_row_missing n (more_values CommandLine (v ∷ [])) (row_of_use (record { name = n; value = v }) ∷ []) rows h)

pub used_flag : (n : Text) (rows : List Row) → has_row n rows ≡ false
    → used (flag_built n) [] rows ≡ rows ++ row_of_use (flag_use n) ∷ []
used_flag n rows h =
    rw (at_row_missing n (λ _. []) [] rows h, append-nil rows) (at_row_missing n (more_values CommandLine (codes "true" ∷ [])) (row_of_use (flag_use n) ∷ []) rows h)

pub option_again : (n v : Text) (rows : List Row) → is_none (use_fault false (option_built n) (v ∷ []) rows) ≡ not (has_row n rows)
option_again n v rows =
    elim (has_row n rows) as (λ (b : Bool). is_none (or_else (if b && not false then kind.ArgumentConflict ∷ [] else [])
    (values_fault (option_built n) (v ∷ []))) ≡ not b) [ true ↦ refl | false ↦ refl ]

pub flag_again : (n : Text) (rows : List Row) → is_none (use_fault false (flag_built n) [] rows) ≡ not (has_row n rows)
flag_again n rows =
    elim (has_row n rows) as (λ (b : Bool). is_none (or_else (if b && not false then kind.ArgumentConflict ∷ [] else [])
    (values_fault (flag_built n) (codes "true" ∷ []))) ≡ not b) [ true ↦ refl | false ↦ refl ]
