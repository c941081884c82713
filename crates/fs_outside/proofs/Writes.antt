-- Texts written one behind the other.
use Rattle.std.proofs.Common.{◌≡◌, ◌+◌, ◌<◌, ℕ, List, [], ◌∷◌, ◌++◌, length, take, drop, get_or, refl, ap, sym, ◌∙◌, append_assoc, append-nil}
use Rattle.std.proofs.Math.Seq.{take-add}
use Rattle.std.specs.List.{flat_map}
use Rattle.std.proofs.lemmas.Grind.{flat_map-append}
use Rattle.std.proofs.lemmas.List.{take_more, take-append-drop}
use Rattle.std.specs.Prelude.{Result, IsErr}
use Rattle.std.proofs.lemmas.Result.{MatchResult-from_err}
use Rattle.fs_outside.specs.Writing.{TookPart, Writes}

-- nothing was written
pub part_of_none : (old text : List ℕ) → TookPart old old text
part_of_none old text = record { taken = []; left = text; text_is = refl; bytes = sym (append-nil old) }

-- a whole text was written, and nothing of what goes on behind it
pub part_of_whole : (old new text more : List ℕ) → new ≡ old ++ text → TookPart old new (text ++ more)
part_of_whole old new text more whole = record { taken = text; left = more; text_is = refl; bytes = whole }

-- a whole text, and then another
pub whole_after : (old mid new text more : List ℕ) → mid ≡ old ++ text → new ≡ mid ++ more → new ≡ old ++ (text ++ more)
whole_after old mid new text more first second =
    second ∙ ap (λ (s : List ℕ). s ++ more) first ∙ append_assoc old text more

-- a whole text, and then a part of another
pub part_after : (old mid new text more : List ℕ) → mid ≡ old ++ text → TookPart mid new more
    → TookPart old new (text ++ more)
part_after old mid new text more first part = record {
  taken = text ++ part.taken;
  left = part.left;
  text_is = ap (λ (s : List ℕ). text ++ s) part.text_is ∙ sym (append_assoc text part.taken part.left);
  bytes = whole_after old mid new text part.taken first part.bytes;
}

-- a part of a text is one of a text that goes on
pub part_before : (old new text more : List ℕ) → TookPart old new text → TookPart old new (text ++ more)
part_before old new text more part = record {
  taken = part.taken;
  left = part.left ++ more;
  text_is = ap (λ (s : List ℕ). s ++ more) part.text_is ∙ append_assoc part.taken part.left more;
  bytes = part.bytes;
}

-- where the answer is an error, a part is enough
pub writes_part : {T E : Type 0} (old new text : List ℕ) (result : Result T E) → IsErr result
    → TookPart old new text → Writes old new text result
writes_part old new text result error part =
    MatchResult-from_err result (λ _. new ≡ old ++ text) (λ _. TookPart old new text) error (λ _. part)

-- What a function needs that writes two or three texts, one behind the other, each with `?`:
-- #[tactic(auto, using(fs_outside::proofs::Writes::writes))].
pub ruleset writes = (writes_part, part_before, part_after, whole_after)

-- The same by hand, over a sink that may tell nothing: the first text of two fails, or the second.
module _ {T E : Type 0} (tells : Type 0) where
  pub fails_first : (old new text more : List ℕ) (result : Result T E) → IsErr result
      → (tells → TookPart old new text) → tells → Writes old new (text ++ more) result
  fails_first old new text more result error part told =
      writes_part old new (text ++ more) result error (part_before old new text more (part told))

  pub fails_after : (old mid new text more : List ℕ) (result : Result T E) → IsErr result
      → (tells → mid ≡ old ++ text) → (tells → TookPart mid new more) → tells → Writes old new (text ++ more) result
  fails_after old mid new text more result error first part told =
      writes_part old new (text ++ more) result error (part_after old mid new text more (first told) (part told))

-- a text up to a place, and then some bytes from there
pub whole_up_to : (old mid new text : List ℕ) (at n : ℕ) → mid ≡ old ++ take at text
    → new ≡ mid ++ take n (drop at text) → new ≡ old ++ take (at + n) text
whole_up_to old mid new text at n first second =
    whole_after old mid new (take at text) (take n (drop at text)) first second
    ∙ ap (λ (s : List ℕ). old ++ s) (sym (take-add at n text))

-- a text up to a place is a part of it
pub part_up_to : (old new text : List ℕ) (at : ℕ) → new ≡ old ++ take at text → TookPart old new text
part_up_to old new text at bytes =
    record { taken = take at text; left = drop at text; text_is = sym (take-append-drop at text); bytes = bytes }

-- the texts of a list's elements, written one behind the other: the one at a place is written, or fails
module _ {X : Type 0} (f : X → List ℕ) where
  texts_to : (xs : List X) (i : ℕ) (d : X) → i < length xs
      → flat_map f (take (i + 1) xs) ≡ flat_map f (take i xs) ++ f (get_or xs i d)
  texts_to xs i d lt =
      rw (take_more xs i d lt, flat_map-append f (take i xs) (get_or xs i d ∷ []), append-nil (f (get_or xs i d))) refl

  pub each_whole : (old mid new : List ℕ) (xs : List X) (i : ℕ) (d : X) → i < length xs
      → mid ≡ old ++ flat_map f (take i xs) → new ≡ mid ++ f (get_or xs i d)
      → new ≡ old ++ flat_map f (take (i + 1) xs)
  each_whole old mid new xs i d lt first second =
      rw (texts_to xs i d lt) (whole_after old mid new (flat_map f (take i xs)) (f (get_or xs i d)) first second)

  pub each_part : (old mid new : List ℕ) (xs : List X) (i : ℕ) (d : X) → i < length xs
      → mid ≡ old ++ flat_map f (take i xs) → TookPart mid new (f (get_or xs i d))
      → TookPart old new (flat_map f xs)
  each_part old mid new xs i d lt first part =
      let whole : flat_map f xs ≡ flat_map f (take (i + 1) xs) ++ flat_map f (drop (i + 1) xs) =
      ap (flat_map f) (sym (take-append-drop (i + 1) xs)) ∙ flat_map-append f (take (i + 1) xs) (drop (i + 1) xs) in
      rw (whole, texts_to xs i d lt)
      (part_before old new (flat_map f (take i xs) ++ f (get_or xs i d)) (flat_map f (drop (i + 1) xs))
      (part_after old mid new (flat_map f (take i xs)) (f (get_or xs i d)) first part))

  -- over a sink that may tell nothing
  pub each_fails : {T E : Type 0} (tells : Type 0) (old mid new : List ℕ) (xs : List X) (i : ℕ) (d : X)
      (result : Result T E) → IsErr result → i < length xs → (tells → mid ≡ old ++ flat_map f (take i xs))
      → (tells → TookPart mid new (f (get_or xs i d))) → tells → Writes old new (flat_map f xs) result
  each_fails tells old mid new xs i d result error lt first part told =
      writes_part old new (flat_map f xs) result error (each_part old mid new xs i d lt (first told) (part told))
