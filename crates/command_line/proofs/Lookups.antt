-- The arguments of a flat command, as `clap` looks them up.
use Rattle.std.proofs.Common.{◌≡◌, ℕ, Bool, true, false, not, ◌||◌, ◌&&◌, List, [], ◌∷◌, ◌++◌, map, refl, ap}
use Rattle.std.specs.Prelude.{Some, None, find, is_some}
use Rattle.std.specs.Str.{bytes_eq}
use Rattle.std.proofs.lemmas.Slice.Eq.{bytes_eq-Decides}
use Rattle.clap.specs.Walk.{Rule, has_long, arg_by_id, arg_by_index, arg_by_long, arg_by_short}
use Rattle.clap.specs.Simple.{Shape, filled, new_shape}
use Rattle.command_line.specs.Commands.{Text}
use Rattle.command_line.specs.Options.{flag_rule, option_rule}
use Rattle.command_line.specs.Grammar.{is_among}

-- an option and a flag, with what building adds
abbrev pub option_built : Text → Rule
option_built name = filled (option_rule name)

abbrev pub flag_built : Text → Rule
flag_built name = filled (flag_rule name)

abbrev pub rules : List Text → List Text → List Rule
rules ns fs = map option_built ns ++ map flag_built fs

-- what building makes of a command with these options and flags
abbrev pub shape_for : Text → List Text → List Text → Shape
shape_for name ns fs = record (new_shape name) {
  rules = rules ns fs;
  disable_help_flag = true;
  disable_help_subcommand = true;
  is_built = true;
}

same_text : (a b : Text) → bytes_eq a b ≡ true → a ≡ b
same_text a b = (bytes_eq-Decides a b).0

pub long_flag : (fs : List Text) (name : Text) → is_among fs name ≡ true → arg_by_long (map flag_built fs) name ≡ Some (flag_built name)
long_flag [] name h = cc
long_flag (f ∷ fs) name h =
    elim (bytes_eq f name) as (λ (b : Bool). bytes_eq f name ≡ b → (b || is_among fs name) ≡ true
    → find (λ a. not (is_some a.index) && has_long a name) (flag_built f ∷ map flag_built fs) ≡ Some (flag_built name))
    [ true ↦ λ e _. rw e (ap (λ n. Some (flag_built n)) (same_text f name e)) | false ↦ λ e t. rw e (long_flag fs name t) ] refl h

pub long_option : (ns fs : List Text) (name : Text) → is_among ns name ≡ true → arg_by_long (rules ns fs) name ≡ Some (option_built name)
long_option [] fs name h = cc
long_option (n ∷ ns) fs name h =
    elim (bytes_eq n name) as (λ (b : Bool). bytes_eq n name ≡ b → (b || is_among ns name) ≡ true
    → find (λ a. not (is_some a.index) && has_long a name) (rules (n ∷ ns) fs) ≡ Some (option_built name))
    [ true ↦ λ e _. rw e (ap (λ k. Some (option_built k)) (same_text n name e)) | false ↦ λ e t. rw e (long_option ns fs name t) ] refl h

-- past the options
pub long_past : (ns fs : List Text) (name : Text) → is_among ns name ≡ false → arg_by_long (rules ns fs) name ≡ arg_by_long (map flag_built fs) name
long_past [] fs name h = refl
long_past (n ∷ ns) fs name h =
    elim (bytes_eq n name) as (λ (b : Bool). bytes_eq n name ≡ b → (b || is_among ns name) ≡ false
    → find (λ a. not (is_some a.index) && has_long a name) (rules (n ∷ ns) fs) ≡ arg_by_long (map flag_built fs) name)
    [ true ↦ λ e t. cc | false ↦ λ e t. rw e (long_past ns fs name t) ] refl h

pub no_long_flag : (fs : List Text) (name : Text) → is_among fs name ≡ false → arg_by_long (map flag_built fs) name ≡ None
no_long_flag [] name h = refl
no_long_flag (f ∷ fs) name h =
    elim (bytes_eq f name) as (λ (b : Bool). bytes_eq f name ≡ b → (b || is_among fs name) ≡ false
    → find (λ a. not (is_some a.index) && has_long a name) (flag_built f ∷ map flag_built fs) ≡ None)
    [ true ↦ λ e t. cc | false ↦ λ e t. rw e (no_long_flag fs name t) ] refl h

pub id_option : (ns fs : List Text) (name : Text) → is_among ns name ≡ true → arg_by_id (rules ns fs) name ≡ Some (option_built name)
id_option [] fs name h = cc
id_option (n ∷ ns) fs name h =
    elim (bytes_eq n name) as (λ (b : Bool). bytes_eq n name ≡ b → (b || is_among ns name) ≡ true
    → find (λ a. bytes_eq a.id name) (rules (n ∷ ns) fs) ≡ Some (option_built name))
    [ true ↦ λ e _. rw e (ap (λ k. Some (option_built k)) (same_text n name e)) | false ↦ λ e t. rw e (id_option ns fs name t) ] refl h

no_short_flag : (fs : List Text) (x : ℕ) → arg_by_short (map flag_built fs) x ≡ None
no_short_flag [] x = refl
no_short_flag (f ∷ fs) x = no_short_flag fs x

-- no argument has a short name
pub no_short : (ns fs : List Text) (x : ℕ) → arg_by_short (rules ns fs) x ≡ None
no_short [] fs x = no_short_flag fs x
no_short (n ∷ ns) fs x = no_short ns fs x

no_index_flag : (fs : List Text) (i : ℕ) → arg_by_index (map flag_built fs) i ≡ None
no_index_flag [] i = refl
no_index_flag (f ∷ fs) i = no_index_flag fs i

-- no argument is positional
pub no_index : (ns fs : List Text) (i : ℕ) → arg_by_index (rules ns fs) i ≡ None
no_index [] fs i = no_index_flag fs i
no_index (n ∷ ns) fs i = no_index ns fs i
