-- Bytes with changes, place by place.
use Rattle.std.proofs.Common.{◌≡◌, ℕ, ◌+◌, ◌<◌, ◌≤◌, List, [], ◌∷◌, ◌++◌, length, get_or, refl, sym, ap, ◌∙◌, ⊎_elim, arith}
use Rattle.std.specs.Prelude.{slice_set, nat_lt, ◌-◌, Bool, true, false}
use Rattle.std.proofs.lemmas.Bool.Decides.{Decides-ltb}
use Rattle.std.specs.List.{between}
use Rattle.std.proofs.lemmas.List.Edits.{get_or-between}
use Rattle.std.proofs.Math.ListN.{set, length-set}
use Rattle.std.proofs.lemmas.List.{ext_get_or, get_or-set_same, get_or-set_other}
use Rattle.std.proofs.lemmas.Bool.{cases_eq}
use Rattle.known_states.specs.declared.changes.Change.{Change}
use Rattle.known_states.specs.Changes.{IsAdded, IsChanged, changed}

pub changed_push : (bytes : List ℕ) (xs : List Change) (x : Change) → changed bytes (xs ++ x ∷ []) ≡ slice_set (changed bytes xs) x.place x.byte
unfolding changed
changed_push bytes [] x = refl
changed_push bytes (y ∷ ys) x = changed_push (slice_set bytes y.place y.byte) ys x

pub changed_none : (base now : List ℕ) (xs : List Change) → xs ≡ [] → IsChanged base now xs 0
unfolding changed
changed_none base now xs e = rw e (record { same = refl; below = λ k low. absurd (omega (arith, low)); above = λ k le. refl })

pub changed_same : (base now : List ℕ) (xs : List Change) (at : ℕ) → IsChanged base now xs at → get_or base at 0 ≡ get_or now at 0 → IsChanged base now xs (at + 1)
changed_same base now xs at h e = record {
  same = h.same;
  below = λ k low. ⊎_elim (λ (is : k ≡ at). rw is (h.above at (omega arith) ∙ e)) (λ (ne : k ≡ at → ⊥). h.below k (omega (arith, low, ne))) (cases_eq k at);
  above = λ k le. h.above k (omega (arith, le));
}

length_set : (l : List ℕ) (i v : ℕ) → length (set l i v) ≡ length l
length_set l i v = simp length-set

pub changed_more : (base now : List ℕ) (xs ys : List Change) (x : Change) (at : ℕ) → IsChanged base now xs at → at < length base → ys ≡ xs ++ x ∷ [] → x.place ≡ at → x.byte ≡ get_or now at 0 → IsChanged base now ys (at + 1)
changed_more base now xs ys x at h low e place byte =
    let is : changed base ys ≡ set (changed base xs) at (get_or now at 0) = ap (changed base) e ∙ changed_push base xs x ∙ ap (λ (p : ℕ). set (changed base xs) p x.byte) place ∙ ap (set (changed base xs) at) byte in
    record {
      same = ap length is ∙ length_set (changed base xs) at (get_or now at 0) ∙ h.same;
      below = λ k less. ap (λ (l : List ℕ). get_or l k 0) is
          ∙ ⊎_elim (λ (here : k ≡ at). rw here (get_or-set_same (changed base xs) at (get_or now at 0) 0 (omega (arith, low, h.same))))
          (λ (ne : k ≡ at → ⊥). get_or-set_other (changed base xs) at k (get_or now at 0) 0 ne ∙ h.below k (omega (arith, less, ne))) (cases_eq k at);
      above = λ k le. let ne : k ≡ at → ⊥ = λ here. omega (arith, here, le) in ap (λ (l : List ℕ). get_or l k 0) is ∙ get_or-set_other (changed base xs) at k (get_or now at 0) 0 ne ∙ h.above k (omega (arith, le));
    }

pub changed_next : (base now : List ℕ) (xs ys : List Change) (place at : ℕ) → IsChanged base now xs at → at < length base → place ≡ at → IsAdded place (get_or base at 0) (get_or now at 0) xs ys → IsChanged base now ys (at + 1)
changed_next base now xs ys place at h low is added =
    ⊎_elim (λ (e : (get_or base at 0 ≡ get_or now at 0) × (ys ≡ xs)). rw e.1 (changed_same base now xs at h e.0))
    (λ (e : ys ≡ xs ++ record { place = place; byte = get_or now at 0 } ∷ []). changed_more base now xs ys (record { place = place; byte = get_or now at 0 }) at h low e is refl)
    added

pub changed_all : (base now : List ℕ) (xs : List Change) (at : ℕ) → IsChanged base now xs at → length now ≤ at → length base ≡ length now → changed base xs ≡ now
changed_all base now xs at h le same = ext_get_or 0 (changed base xs) now (h.same ∙ same) (λ i low. h.below i (omega (arith, low, le, h.same, same)))

-- where a block is the same, none has to be changed
pub changed_block : (base now : List ℕ) (xs : List Change) (at end : ℕ) → IsChanged base now xs at → at ≤ end → end ≤ length now → length base ≡ length now
    → between at end base ≡ between at end now → IsChanged base now xs end
changed_block base now xs at end h order within same e = record {
  same = h.same;
  below = λ k low. by k low (nat_lt k at) refl;
  above = λ k le. h.above k (omega (arith, le, order));
}
  where
    by : (k : ℕ) → k < end → (b : Bool) → nat_lt k at ≡ b → get_or (changed base xs) k 0 ≡ get_or now k 0
    by k low true t = h.below k ((Decides-ltb k at).0 t)
    by k low false t =
        let not : k < at → ⊥ = λ less. let yes : nat_lt k at ≡ true = (Decides-ltb k at).1 less in absurd cc in
        let is : at + (k - at) ≡ k = omega (arith, not) in
        let a : get_or (between at end base) (k - at) 0 ≡ get_or base (at + (k - at)) 0 = get_or-between base at end (k - at) 0 (omega (arith, is, low)) in
        let b : get_or (between at end now) (k - at) 0 ≡ get_or now (at + (k - at)) 0 = get_or-between now at end (k - at) 0 (omega (arith, is, low)) in
        h.above k (omega (arith, not)) ∙ ap (λ (i : ℕ). get_or base i 0) (sym is) ∙ sym a ∙ ap (λ (l : List ℕ). get_or l (k - at) 0) e ∙ b ∙ ap (λ (i : ℕ). get_or now i 0) is

-- none has to be changed where the bytes are the same, place by place
pub changed_places : (base now : List ℕ) (xs : List Change) (at end : ℕ) → IsChanged base now xs at → at ≤ end → ((k : ℕ) → at ≤ k → k < end → get_or now k 0 ≡ get_or base k 0) → IsChanged base now xs end
changed_places base now xs at end h order e = record {
  same = h.same;
  below = λ k low. by k low (nat_lt k at) refl;
  above = λ k le. h.above k (omega (arith, le, order));
}
  where
    by : (k : ℕ) → k < end → (b : Bool) → nat_lt k at ≡ b → get_or (changed base xs) k 0 ≡ get_or now k 0
    by k low true t = h.below k ((Decides-ltb k at).0 t)
    by k low false t =
        let not : k < at → ⊥ = λ less. let yes : nat_lt k at ≡ true = (Decides-ltb k at).1 less in absurd cc in
        h.above k (omega (arith, not)) ∙ sym (e k (omega (arith, not)) low)
