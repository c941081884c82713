-- What computing gives for each set of options, from its row: it is a flat one, of which `clap` states the matches and the faults.
use Rattle.std.proofs.Common.{◌≡◌, true, List, [], ◌∷◌, refl}
use Rattle.clap.specs.Words.{is_simple, is_simple_and_free}
use Rattle.clap.specs.Simple.{argument_words, built}
use Rattle.clap.proofs.OnLiterals.{clap_on_literals}
use Rattle.command_line.specs.Commands.{Text, row_in}
use Rattle.command_line.specs.Options.{app_for}
use Rattle.command_line.specs.declared.commands.Command.TheVariants as command
use Rattle.command_line.specs.declared.commands.OptionSet.{OptionSet}
use Rattle.command_line.specs.declared.commands.OptionSet.TheVariants.{OfCommand, OfCase, OfWindow, OfAnswers}
use Rattle.command_line.proofs.Lookups.{shape_for}

pub record IsFlat (set : OptionSet) : Type 0 where
  pub simple : is_simple (app_for set) ≡ true
  pub free : is_simple_and_free (app_for set) ≡ true
  pub top : (built (app_for set)).top ≡ shape_for (row_in set).word (row_in set).options (row_in set).flags
  pub subs : (built (app_for set)).subs ≡ []
  pub arguments : (program : Text) (words : List Text) → argument_words (app_for set) (program ∷ words) ≡ words

-- the last line is checked for each command that is left
pub is_flat : (set : OptionSet) → IsFlat set
unfolding clap_on_literals
is_flat OfCase = record { simple = refl; free = refl; top = refl; subs = refl; arguments = λ _ _. refl }
is_flat OfWindow = record { simple = refl; free = refl; top = refl; subs = refl; arguments = λ _ _. refl }
is_flat OfAnswers = record { simple = refl; free = refl; top = refl; subs = refl; arguments = λ _ _. refl }
is_flat (OfCommand command.Run) = record { simple = refl; free = refl; top = refl; subs = refl; arguments = λ _ _. refl }
is_flat (OfCommand _) = record { simple = refl; free = refl; top = refl; subs = refl; arguments = λ _ _. refl }
