-- The outcomes that words name, one after another.
use Rattle.std.proofs.Common.{◌≡◌, ℕ, ◌+◌, ◌<◌, ◌≤◌, List, [], ◌∷◌, ◌++◌, drop, get_or, length, refl, ap, sym, ◌∙◌, append_assoc, append-nil}
use Rattle.std.proofs.lemmas.List.{at_drop_all, at_drop_more}
use Rattle.std.specs.Prelude.{Option, Some, None, option_map}
use Rattle.fs_model.specs.declared.outcomes.Outcome.{Outcome}
use Rattle.command_line.specs.Chosen.{outcome_named, outcome_onto, outcomes_of}
use Rattle.command_line.specs.Commands.{Text}

-- these outcomes, and then those that are left
abbrev pub behind : List Outcome → Option (List Outcome) → Option (List Outcome)
behind outcomes = option_map (λ more. outcomes ++ more)

pub none_yet : (left : Option (List Outcome)) → left ≡ behind [] left
none_yet None = refl
none_yet (Some more) = refl

pub one_more : (outcomes : List Outcome) (o : Outcome) (left : Option (List Outcome)) → behind outcomes (outcome_onto (Some o) left) ≡ behind (outcomes ++ o ∷ []) left
one_more outcomes o None = refl
one_more outcomes o (Some more) = ap Some (sym (append_assoc outcomes (o ∷ []) more))

pub not_one : (outcomes : List Outcome) (left : Option (List Outcome)) → behind outcomes (outcome_onto None left) ≡ None
not_one outcomes None = refl
not_one outcomes (Some more) = refl

-- the next word, which names an outcome or none
module _ (all : List Text) (n : ℕ) (word : Text) (at : (n < length all) × (word ≡ get_or all n word)) where
  next : outcomes_of (drop n all) ≡ outcome_onto (outcome_named word) (outcomes_of (drop (n + 1) all))
  next = at_drop_more outcomes_of all n word at.0 ∙ ap (λ (w : Text). outcome_onto (outcome_named w) (outcomes_of (drop (n + 1) all))) (sym at.1)

  pub refused_next : (said : Option (List Outcome)) (outcomes : List Outcome) → said ≡ behind outcomes (outcomes_of (drop n all)) → outcome_named word ≡ None → said ≡ None
  refused_next said outcomes h none =
      h ∙ ap (behind outcomes) (next ∙ ap (λ (o : Option Outcome). outcome_onto o (outcomes_of (drop (n + 1) all))) none) ∙ not_one outcomes (outcomes_of (drop (n + 1) all))

  pub taken_next : (said : Option (List Outcome)) (outcomes more : List Outcome) (o : Outcome) (m : ℕ) → said ≡ behind outcomes (outcomes_of (drop n all)) → outcome_named word ≡ Some o
      → more ≡ outcomes ++ o ∷ [] → m ≡ n + 1 → said ≡ behind more (outcomes_of (drop m all))
  taken_next said outcomes more o m h some is one =
      h ∙ ap (behind outcomes) (next ∙ ap (λ (x : Option Outcome). outcome_onto x (outcomes_of (drop (n + 1) all))) some)
      ∙ one_more outcomes o (outcomes_of (drop (n + 1) all))
      ∙ ap (λ (os : List Outcome). behind os (outcomes_of (drop (n + 1) all))) (sym is)
      ∙ ap (λ (k : ℕ). behind more (outcomes_of (drop k all))) (sym one)

pub all_taken : (all : List Text) (n : ℕ) (said : Option (List Outcome)) (outcomes : List Outcome) → length all ≤ n → said ≡ behind outcomes (outcomes_of (drop n all)) → said ≡ Some outcomes
all_taken all n said outcomes end h = h ∙ ap (behind outcomes) (at_drop_all outcomes_of all n end) ∙ ap Some (append-nil outcomes)
