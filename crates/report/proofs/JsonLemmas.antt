-- The value that is written as JSON, and the text that `serde_json` states of it.
use Rattle.std.proofs.Common.{◌≡◌, ℕ, refl, ap, false, ◌∙◌}
use Rattle.std.specs.Prelude.{codes}
use Rattle.serde_json.specs.Data.{Data, Members, no_members, number, object, put, unsigned}
use Rattle.serde_json.specs.Written.{compact_text, has_float}
use Rattle.serde_json.proofs.OnLiterals.{serde_json_on_literals}
use Rattle.fs_model.specs.declared.outcomes.Outcome.{Outcome}
use Rattle.fs_model.specs.Outcome.{all_outcomes}
use Rattle.report.specs.JsonMembers.{with_outcomes}
use Rattle.report.specs.Text.{json_object, window_object}

-- the members of the first two numbers
abbrev pub first_members : ℕ → ℕ → Members
first_members cycles sites = put (codes "sites") (number (unsigned sites)) (put (codes "instructions") (number (unsigned cycles)) no_members)

abbrev pub json_data : ℕ → ℕ → (Outcome → ℕ) → Data
json_data cycles sites counts = object (with_outcomes counts (first_members cycles sites) all_outcomes)

no_float : (n sites : ℕ) (t : Outcome → ℕ) → has_float (json_data n sites t) ≡ false
no_float n sites t = refl

text_of : (n sites : ℕ) (t : Outcome → ℕ) → compact_text (json_data n sites t) ≡ json_object n sites t
unfolding serde_json_on_literals
text_of n sites t = refl

pub no_float_at : (d : Data) (n sites : ℕ) (t : Outcome → ℕ) → d ≡ json_data n sites t → has_float d ≡ false
no_float_at d n sites t e = ap has_float e ∙ no_float n sites t

pub text_at : (d : Data) (n sites : ℕ) (t : Outcome → ℕ) → d ≡ json_data n sites t → compact_text d ≡ json_object n sites t
text_at d n sites t e = ap compact_text e ∙ text_of n sites t

-- ---- the same of a window

-- the members of the first three numbers
abbrev pub window_first : ℕ → ℕ → ℕ → Members
window_first cycles inside sites =
    put (codes "sites") (number (unsigned sites)) (put (codes "window") (number (unsigned inside)) (put (codes "instructions") (number (unsigned cycles)) no_members))

abbrev pub window_data : ℕ → ℕ → ℕ → (Outcome → ℕ) → Data
window_data cycles inside sites counts = object (with_outcomes counts (window_first cycles inside sites) all_outcomes)

window_text_of : (n inside sites : ℕ) (t : Outcome → ℕ) → compact_text (window_data n inside sites t) ≡ window_object n inside sites t
unfolding serde_json_on_literals
window_text_of n inside sites t = refl

pub window_text_at : (d : Data) (n inside sites : ℕ) (t : Outcome → ℕ) → d ≡ window_data n inside sites t → compact_text d ≡ window_object n inside sites t
window_text_at d n inside sites t e = ap compact_text e ∙ window_text_of n inside sites t
