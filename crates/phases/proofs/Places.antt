-- A site among those that are asked for.
use Rattle.std.proofs.Common.{◌≡◌, ℕ, ◌+◌, ◌<◌, List, ◌∷◌, ◌++◌, All, add-one, drop, get_or, length, take, sym, ap, ◌∙◌}
use Rattle.std.proofs.Math.Seq.{drop-cons}
use Rattle.std.proofs.lemmas.List.{take-append-drop, take_more}
use Rattle.std.proofs.lemmas.List.Elements.{All-push}

pub at_place : {X : Type 0} (xs : List X) (i : ℕ) (d : X) → i < length xs → xs ≡ take i xs ++ (get_or xs i d ∷ drop (i + 1) xs)
at_place xs i d low = sym (take-append-drop i xs) ∙ ap (λ r. take i xs ++ r) (drop-cons xs i d low ∙ ap (λ j. get_or xs i d ∷ drop j xs) (sym (add-one i)))

pub one_more : {X : Type 0} (P : X → Type 0) (xs : List X) (i : ℕ) (d : X) → i < length xs → All P (take i xs) → P (get_or xs i d) → All P (take (i + 1) xs)
one_more P xs i d low all here = rw (take_more xs i d low) (All-push P (take i xs) (get_or xs i d) all here)
