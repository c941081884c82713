-- The members of a JSON object that are totals.
use Rattle.std.specs.Prelude.{ℕ, List}
use Rattle.std.specs.List.{fold}
use Rattle.serde_json.specs.Data.{Members, number, put, unsigned}
use Rattle.fs_model.specs.declared.outcomes.Outcome.{Outcome}
use Rattle.fs_model.specs.Outcome.{outcome_key}

-- the members with the counts of these outcomes
abbrev pub with_outcomes : (Outcome → ℕ) → Members → List Outcome → Members
with_outcomes counts = fold (λ (members : Members) (o : Outcome). put (outcome_key o) (number (unsigned (counts o))) members)
