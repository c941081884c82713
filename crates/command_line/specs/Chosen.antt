-- Outcomes as they are written on the command line.
use Rattle.std.specs.Prelude.{ℕ, ◌==◌, Bool, List, [], ◌∷◌, Option, Some, None, find, codes, option_and_then, option_map}
use Rattle.std.specs.List.{slice_split}
use Rattle.std.specs.Str.{bytes_eq}
use Rattle.fs_model.specs.declared.outcomes.Outcome.{Outcome}
use Rattle.fs_model.specs.declared.outcomes.Outcome.TheVariants.{Silent}
use Rattle.fs_model.specs.Outcome.{all_outcomes, outcome_word}
use Rattle.command_line.specs.Commands.{Text}
use Rattle.command_line.specs.Ranges.{default_workers, max_workers}
use Rattle.command_line.specs.Said.{Texts, number_or}

abbrev pub is_comma : ℕ → Bool
is_comma byte = byte == 44

-- the outcome that a word names
abbrev pub outcome_named : Text → Option Outcome
outcome_named word = find (λ o. bytes_eq (outcome_word o) word) all_outcomes

abbrev pub outcome_onto : Option Outcome → Option (List Outcome) → Option (List Outcome)
outcome_onto named = option_and_then (λ outcomes. option_map (λ o. o ∷ outcomes) named)

-- the outcomes that the words name, if each names one
abbrev pub outcomes_of : List Text → Option (List Outcome)
outcomes_of [] = Some []
outcomes_of (word ∷ words) = outcome_onto (outcome_named word) (outcomes_of words)

-- one or several words of outcomes, with a comma between two
abbrev pub outcomes_in : Text → Option (List Outcome)
outcomes_in text = outcomes_of (slice_split is_comma text)

abbrev pub only_silent : List Outcome
only_silent = Silent ∷ []

abbrev pub outcomes_or : Option Text → Option (List Outcome)
outcomes_or None = Some only_silent
outcomes_or (Some text) = outcomes_in text

abbrev pub chosen_said : Texts → Option (List Outcome)
chosen_said given = outcomes_or (given (codes "outcome"))

abbrev pub workers_said : Texts → Option ℕ
workers_said given = number_or default_workers 1 max_workers (given (codes "workers"))
