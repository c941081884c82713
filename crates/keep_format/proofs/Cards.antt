-- A list that is written element by element.
use Rattle.std.proofs.Common.{◌≡◌, ℕ, ◌+◌, List, [], ◌∷◌, ◌++◌, take, Some, sym, ◌∙◌, ap, append_assoc}
use Rattle.std.specs.Prelude.{slice_get}
use Rattle.std.proofs.lemmas.List.{take_more}
use Rattle.std.proofs.lemmas.Option.{slice_get_within, get_or_from_slice_get}

taken : (list : List ℕ) (i byte : ℕ) → slice_get list i ≡ Some byte → take (i + 1) list ≡ take i list ++ byte ∷ []
taken list i byte is =
    take_more list i 0 (slice_get_within list i byte is)
    ∙ ap (λ (b : ℕ). take i list ++ b ∷ []) (get_or_from_slice_get list i byte 0 is)

pub card_more : (now old list : List ℕ) (i byte : ℕ) → now ≡ old ++ take i list → slice_get list i ≡ Some byte → now ++ byte ∷ [] ≡ old ++ take (i + 1) list
card_more now old list i byte so_far is =
    ap (λ (l : List ℕ). l ++ byte ∷ []) so_far ∙ append_assoc old (take i list) (byte ∷ []) ∙ ap (λ (l : List ℕ). old ++ l) (sym (taken list i byte is))
