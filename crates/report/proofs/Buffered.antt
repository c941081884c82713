-- Texts that go through a buffer, one behind the other.
use Rattle.std.proofs.Common.{◌≡◌, ◌+◌, ◌<◌, ℕ, List, [], ◌∷◌, ◌++◌, length, get_or, refl, ap, sym, ◌∙◌, subst, append_assoc, append-nil, take, drop}
use Rattle.std.specs.List.{flat_map}
use Rattle.std.proofs.lemmas.Grind.{flat_map-append}
use Rattle.std.proofs.lemmas.List.{take_more, take-append-drop}
use Rattle.std.specs.Prelude.{Result, Ok, Err, IsErr}
use Rattle.std.proofs.lemmas.Result.{MatchResult-from_err}
use Rattle.fs_outside.specs.Writing.{TookPart, Writes}
use Rattle.fs_outside.proofs.Writes.{part_before, whole_after}
use Rattle.report.specs.Buffer.{Moved, Puts}

-- nothing yet
pub moved_none : (t w : List ℕ) → Moved t w t w []
moved_none t w = record { more = []; bytes = sym (append-nil t); text_is = append-nil w }

-- a text, and then another
pub moved_on : (t w t' w' t'' w'' a b : List ℕ) → Moved t w t' w' a → Moved t' w' t'' w'' b → Moved t w t'' w'' (a ++ b)
moved_on t w t' w' t'' w'' a b m n = record {
  more = m.more ++ n.more;
  bytes = whole_after t t' t'' m.more n.more m.bytes n.bytes;
  text_is = sym (append_assoc w a b) ∙ ap (λ (s : List ℕ). s ++ b) m.text_is ∙ append_assoc m.more w' b
      ∙ ap (λ (s : List ℕ). m.more ++ s) n.text_is ∙ sym (append_assoc m.more n.more w'');
}

-- a text, and then a part of what stands behind it
pub moved_part : (t w t' w' t'' a b : List ℕ) → Moved t w t' w' a → TookPart t' t'' (w' ++ b) → TookPart t t'' (w ++ (a ++ b))
moved_part t w t' w' t'' a b m p = record {
  taken = m.more ++ p.taken;
  left = p.left;
  text_is = sym (append_assoc w a b) ∙ ap (λ (s : List ℕ). s ++ b) m.text_is ∙ append_assoc m.more w' b
      ∙ ap (λ (s : List ℕ). m.more ++ s) p.text_is ∙ sym (append_assoc m.more p.taken p.left);
  bytes = whole_after t t' t'' m.more p.taken m.bytes p.bytes;
}

-- a part of a text behind what waits is one of a text that goes on
pub part_goes_on : (t t' w a b : List ℕ) → TookPart t t' (w ++ a) → TookPart t t' (w ++ (a ++ b))
part_goes_on t t' w a b p =
    let whole : w ++ a ++ b ≡ w ++ (a ++ b) = append_assoc w a b in
    let part : TookPart t t' (w ++ a ++ b) = part_before t t' (w ++ a) b p in
    record { taken = part.taken; left = part.left; text_is = sym whole ∙ part.text_is; bytes = part.bytes }

-- a text, and then all that waits
pub moved_whole : (t w t' w' t'' a : List ℕ) → Moved t w t' w' a → t'' ≡ t' ++ w' → t'' ≡ t ++ (w ++ a)
moved_whole t w t' w' t'' a m e = whole_after t t' t'' m.more w' m.bytes e ∙ ap (λ (s : List ℕ). t ++ s) (sym m.text_is)

-- a text behind what waits that found room in the buffer
pub moved_in : (t w w' a : List ℕ) → w' ≡ w ++ a → Moved t w t w' a
moved_in t w w' a e = record { more = []; bytes = sym (append-nil t); text_is = sym e }

-- one that found none: both were written
pub moved_out : (t w t' w' a : List ℕ) → t' ≡ t ++ (w ++ a) → w' ≡ [] → Moved t w t' w' a
moved_out t w t' w' a e none = record { more = w ++ a; bytes = e; text_is = sym (append-nil (w ++ a)) ∙ ap (λ (s : List ℕ). w ++ a ++ s) (sym none) }

-- where the answer is an error, a part is enough
pub puts_part : {T E : Type 0} (t w t' w' text : List ℕ) (result : Result T E) → IsErr result → TookPart t t' (w ++ text) → Puts t w t' w' text result
puts_part t w t' w' text result error part =
    MatchResult-from_err result (λ _. Moved t w t' w' text) (λ _. TookPart t t' (w ++ text)) error (λ _. part)

-- ---- by a buffer that was empty

-- a part of a text that failed
pub part_of_empty : (t w t' text : List ℕ) → w ≡ [] → TookPart t t' (w ++ text) → TookPart t t' text
part_of_empty t w t' text none part = subst (λ (x : List ℕ). TookPart t t' (x ++ text)) none part

-- a text, and then what waits of it
pub flushed : {T E : Type 0} (t w t' w' t'' text : List ℕ) (result : Result T E) → w ≡ [] → Moved t w t' w' text
    → Writes t' t'' w' result → Writes t t'' text result
flushed t w t' w' t'' text (Ok v) none m e = moved_whole t w t' w' t'' text m e ∙ ap (λ (x : List ℕ). t ++ (x ++ text)) none
flushed t w t' w' t'' text (Err e) none m p = part_of_empty t w t'' text none (record {
  taken = m.more ++ p.taken;
  left = p.left;
  text_is = m.text_is ∙ ap (λ (s : List ℕ). m.more ++ s) p.text_is ∙ sym (append_assoc m.more p.taken p.left);
  bytes = whole_after t t' t'' m.more p.taken m.bytes p.bytes;
})

-- ---- the texts of a list's elements

module _ {X : Type 0} (f : X → List ℕ) where
  pub texts_to : (xs : List X) (i : ℕ) (d : X) → i < length xs
      → flat_map f (take (i + 1) xs) ≡ flat_map f (take i xs) ++ f (get_or xs i d)
  texts_to xs i d lt =
      rw (take_more xs i d lt, flat_map-append f (take i xs) (get_or xs i d ∷ []), append-nil (f (get_or xs i d))) refl

  -- one element more
  pub each_moves : (t w t' w' t'' w'' : List ℕ) (xs : List X) (i : ℕ) (d : X) → i < length xs
      → Moved t w t' w' (flat_map f (take i xs)) → Moved t' w' t'' w'' (f (get_or xs i d)) → Moved t w t'' w'' (flat_map f (take (i + 1) xs))
  each_moves t w t' w' t'' w'' xs i d lt m n =
      rw (texts_to xs i d lt) (moved_on t w t' w' t'' w'' (flat_map f (take i xs)) (f (get_or xs i d)) m n)

  -- and then a part of the next
  pub each_part : (t w t' w' t'' : List ℕ) (xs : List X) (i : ℕ) (d : X) → i < length xs
      → Moved t w t' w' (flat_map f (take i xs)) → TookPart t' t'' (w' ++ f (get_or xs i d)) → TookPart t t'' (w ++ flat_map f xs)
  each_part t w t' w' t'' xs i d lt m p =
      let whole : flat_map f xs ≡ flat_map f (take (i + 1) xs) ++ flat_map f (drop (i + 1) xs) =
      ap (flat_map f) (sym (take-append-drop (i + 1) xs)) ∙ flat_map-append f (take (i + 1) xs) (drop (i + 1) xs) in
      rw (whole, texts_to xs i d lt)
      (part_goes_on t t'' w (flat_map f (take i xs) ++ f (get_or xs i d)) (flat_map f (drop (i + 1) xs))
      (moved_part t w t' w' t'' (flat_map f (take i xs)) (f (get_or xs i d)) m p))
