-- The digits of bytes, one byte after the other.
use Rattle.std.proofs.Common.{◌≡◌, ℕ, List, [], ◌∷◌, ◌++◌, refl, sym, ◌∙◌, ap, append_assoc}
use Rattle.hex.specs.Hex.{encode_with, encode_lower, lower_digits}

pub digits_none : encode_lower [] ≡ []
unfolding encode_with
digits_none = refl

digits_more : (t a b : List ℕ) → encode_with t (a ++ b) ≡ encode_with t a ++ encode_with t b
unfolding encode_with
digits_more t [] b = refl
digits_more t (x ∷ a) b = rw (digits_more t a b) refl

-- with one byte more
pub digits_next : (text bytes front : List ℕ) (byte : ℕ) → bytes ≡ front ++ byte ∷ [] → (text ++ encode_lower front) ++ encode_lower (byte ∷ []) ≡ text ++ encode_lower bytes
digits_next text bytes front byte is =
    append_assoc text (encode_lower front) (encode_lower (byte ∷ []))
    ∙ ap (λ (x : List ℕ). text ++ x) (sym (digits_more lower_digits front (byte ∷ [])) ∙ ap encode_lower (sym is))
