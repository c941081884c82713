-- Where two lists differ.
use Rattle.std.proofs.Common.{◌≡◌, ℕ, ◌+◌, ◌<◌, ◌≤◌, ◌==◌, Bool, true, false, if◌then◌else◌, List, [], ◌∷◌, length, drop, get_or, Option, Some, None, refl, sym, ◌∙◌, ap, arith}
use Rattle.std.specs.Prelude.{slice_get}
use Rattle.std.specs.Option.{option_map}
use Rattle.std.proofs.lemmas.Bool.Decides.{nat_tests}
use Rattle.std.proofs.lemmas.List.{drop_more, drop_all}
use Rattle.std.proofs.lemmas.Option.{slice_get_within, get_or_from_slice_get}
use Rattle.result_keeper.specs.Acceptance.{difference}

shift_more : (i : ℕ) (at : Option ℕ) → option_map (λ n. n + i) (option_map (λ n. n + 1) at) ≡ option_map (λ n. n + (i + 1)) at
shift_more i None = refl
shift_more i (Some n) = ap (λ (m : ℕ). Some m) (let e : n + 1 + i ≡ n + (i + 1) = omega arith in e)

here : (i : ℕ) → option_map (λ n. n + i) (Some 0) ≡ Some i
here i = ap (λ (m : ℕ). Some m) (let e : 0 + i ≡ i = omega arith in e)

at_get : (list : List ℕ) (i byte : ℕ) → slice_get list i ≡ Some byte → drop i list ≡ byte ∷ drop (i + 1) list
at_get list i byte is =
    drop_more list i 0 (slice_get_within list i byte is) ∙ ap (λ (b : ℕ). b ∷ drop (i + 1) list) (get_or_from_slice_get list i byte 0 is)

same_test : (a b : ℕ) → a ≡ b → (a == b) ≡ true
same_test a b same = grind (arith, nat_tests)

other_test : (a b : ℕ) → (a ≡ b → ⊥) → (a == b) ≡ false
other_test a b apart = grind (arith, nat_tests)

module _ (bytes card : List ℕ) (i : ℕ) (whole : Option ℕ) (so_far : option_map (λ n. n + i) (difference (drop i bytes) (drop i card)) ≡ whole) where
  pub differ_more : (byte : ℕ) → i < length bytes → slice_get card i ≡ Some byte → get_or bytes i 0 ≡ byte → option_map (λ n. n + (i + 1)) (difference (drop (i + 1) bytes) (drop (i + 1) card)) ≡ whole
  differ_more byte lt is same =
      sym (shift_more i (difference (drop (i + 1) bytes) (drop (i + 1) card)))
      ∙ sym (ap (λ (t : Bool). option_map (λ n. n + i) (if t then option_map (λ n. n + 1) (difference (drop (i + 1) bytes) (drop (i + 1) card)) else Some 0)) (same_test (get_or bytes i 0) byte same))
      ∙ sym (ap (λ (l : List ℕ). option_map (λ n. n + i) (difference l (byte ∷ drop (i + 1) card))) (drop_more bytes i 0 lt))
      ∙ sym (ap (λ (l : List ℕ). option_map (λ n. n + i) (difference (drop i bytes) l)) (at_get card i byte is))
      ∙ so_far

  pub differ_here : (byte : ℕ) → i < length bytes → slice_get card i ≡ Some byte → (get_or bytes i 0 ≡ byte → ⊥) → Some i ≡ whole
  differ_here byte lt is apart =
      sym (here i)
      ∙ sym (ap (λ (t : Bool). option_map (λ n. n + i) (if t then option_map (λ n. n + 1) (difference (drop (i + 1) bytes) (drop (i + 1) card)) else Some 0)) (other_test (get_or bytes i 0) byte apart))
      ∙ sym (ap (λ (l : List ℕ). option_map (λ n. n + i) (difference l (byte ∷ drop (i + 1) card))) (drop_more bytes i 0 lt))
      ∙ sym (ap (λ (l : List ℕ). option_map (λ n. n + i) (difference (drop i bytes) l)) (at_get card i byte is))
      ∙ so_far

  pub differ_past : i < length bytes → length card ≤ i → Some i ≡ whole
  differ_past lt le =
      sym (here i)
      ∙ sym (ap (λ (l : List ℕ). option_map (λ n. n + i) (difference l [])) (drop_more bytes i 0 lt))
      ∙ sym (ap (λ (l : List ℕ). option_map (λ n. n + i) (difference (drop i bytes) l)) (drop_all i card le))
      ∙ so_far

  pub differ_short : length bytes ≤ i → i < length card → Some i ≡ whole
  differ_short le lt =
      sym (here i)
      ∙ sym (ap (λ (l : List ℕ). option_map (λ n. n + i) (difference l (get_or card i 0 ∷ drop (i + 1) card))) (drop_all i bytes le))
      ∙ sym (ap (λ (l : List ℕ). option_map (λ n. n + i) (difference (drop i bytes) l)) (drop_more card i 0 lt))
      ∙ so_far

  pub differ_not : length bytes ≤ i → length card ≤ i → None ≡ whole
  differ_not le le' =
      sym (ap (λ (l : List ℕ). option_map (λ n. n + i) (difference l [])) (drop_all i bytes le))
      ∙ sym (ap (λ (l : List ℕ). option_map (λ n. n + i) (difference (drop i bytes) l)) (drop_all i card le'))
      ∙ so_far

pub differ_start : (bytes card : List ℕ) → option_map (λ n. n + 0) (difference bytes card) ≡ difference bytes card
differ_start bytes card = shift_none (difference bytes card)
  where
    shift_none : (at : Option ℕ) → option_map (λ n. n + 0) at ≡ at
    shift_none None = refl
    shift_none (Some n) = ap (λ (m : ℕ). Some m) (let e : n + 0 ≡ n = omega arith in e)

number_same : (x y : ℕ) → (x == y) ≡ true → x ≡ y
number_same x y is = grind (arith, nat_tests)

same_case : (t : Bool) (x y : ℕ) (a b : List ℕ) (rest : Option ℕ) → (x == y) ≡ t → (rest ≡ None → a ≡ b) → (if t then option_map (λ n. n + 1) rest else Some 0) ≡ None → x ∷ a ≡ y ∷ b
same_case true x y a b None is same none = ap (λ (n : ℕ). n ∷ a) (number_same x y is) ∙ ap (λ (l : List ℕ). y ∷ l) (same refl)
same_case true x y a b (Some d) is same none = absurd (cc)
same_case false x y a b rest is same none = absurd (cc)

-- two lists that differ nowhere
pub same_if : (a b : List ℕ) → difference a b ≡ None → a ≡ b
same_if [] [] none = refl
same_if [] (y ∷ b) none = absurd (cc)
same_if (x ∷ a) [] none = absurd (cc)
same_if (x ∷ a) (y ∷ b) none = same_case (x == y) x y a b (difference a b) refl (same_if a b) none

pub differ_itself : (a : List ℕ) → difference a a ≡ None
differ_itself [] = refl
differ_itself (x ∷ a) =
    ap (λ (t : Bool). if t then option_map (λ n. n + 1) (difference a a) else Some 0) (same_test x x refl)
    ∙ ap (λ (d : Option ℕ). option_map (λ n. n + 1) d) (differ_itself a)
