-- What `clap` states of a parse, at the commands of this program.
use Rattle.std.proofs.Common.{◌≡◌, ◌≢◌, ◌⊎◌, inl, inr, true, false, List, [], ◌∷◌, refl, ap, subst, ◌∙◌}
use Rattle.clap.specs.Words.{App, IsAmong, Kinds, Row, fault_of, is_simple, is_simple_and_free, matches_of}
use Rattle.clap.specs.declared.error.kind.ErrorKind.{ErrorKind}
use Rattle.clap.specs.declared.error.kind.ErrorKind.TheVariants as kind
use Rattle.command_line.specs.declared.commands.OptionSet.{OptionSet}
use Rattle.command_line.specs.Commands.{Text}
use Rattle.command_line.proofs.Flat.{is_flat}
use Rattle.command_line.specs.Options.{app_for, is_none, takes_words, texts_given, texts_in}

pub taken : (set : OptionSet) (a : App) (words : List Text) → a ≡ app_for set
    → (is_simple_and_free a ≡ true → fault_of a words ≡ []) → takes_words set words ≡ true
unfolding takes_words
taken set a words e h = ap is_none (subst (λ (x : App). fault_of x words ≡ []) e (h (ap is_simple_and_free e ∙ (is_flat set).free)))

fault_there : (k : ErrorKind) (kinds : Kinds) → k ≢ kind.OutOfMemory → (k ≡ kind.OutOfMemory) ⊎ IsAmong k kinds → is_none kinds ≡ false
fault_there k [] other (inl e) = absurd (other e)
fault_there k [] other (inr a) = absurd a
fault_there k (x ∷ xs) other h = refl

pub refused : (set : OptionSet) (a : App) (words : List Text) (k : ErrorKind) → a ≡ app_for set → k ≢ kind.OutOfMemory
    → (is_simple_and_free a ≡ true → (k ≡ kind.OutOfMemory) ⊎ IsAmong k (fault_of a words)) → takes_words set words ≡ false
unfolding takes_words
refused set a words k e other h =
    fault_there k (fault_of (app_for set) words) other
    (subst (λ (x : App). (k ≡ kind.OutOfMemory) ⊎ IsAmong k (fault_of x words)) e (h (ap is_simple_and_free e ∙ (is_flat set).free)))

pub texts_are : (set : OptionSet) (a : App) (words : List Text) (rows : List Row) (Q : App → Type 0) → a ≡ app_for set
    → (is_simple a ≡ true → (rows ≡ matches_of a words) × Q a) → texts_in rows ≡ texts_given set words
unfolding texts_given
texts_are set a words rows Q e h =
    ap texts_in (subst (λ (x : App). rows ≡ matches_of x words) e (h (ap is_simple e ∙ (is_flat set).simple)).0)
