-- Paces of words of RAM.
use Rattle.std.proofs.Common.{◌≡◌, ◌≢◌, ℕ, ◌+◌, ◌-◌, ◌*◌, ◌/◌, ◌%◌, ◌^◌, ◌<◌, ◌≤◌, ◌==◌, Bool, true, false, if◌then◌else◌, List, length, slice_index, slice_index_or, slice_set, ◌⊎◌, inl, inr, ⊎_elim, refl, sym, ap, ◌∙◌, arith}
use Rattle.std.proofs.Math.Nat.{mod-lt}
use Rattle.std.proofs.lemmas.List.{get_or-set_same, get_or-set_other, get_or_default}
use Rattle.std.proofs.lemmas.Bool.{cases_eq}
use Rattle.std.proofs.lemmas.Bool.Decides.{nat_tests}
use Rattle.fs_model.specs.declared.instructions.Size.{Size}
use Rattle.fs_model.specs.Case.{CaseData}
use Rattle.fs_model.specs.Memory.{count_of}
use Rattle.counting_loops.specs.declared.paces.Pace.{Pace}
use Rattle.counting_loops.specs.declared.paces.Pace.TheVariants.{Unknown}
use Rattle.counting_loops.specs.declared.paces.Range.{Range}
use Rattle.counting_loops.specs.declared.words.Held.{Held}
use Rattle.counting_loops.specs.Words.{pace_if, word_pace, Misses, RangeMisses, Forgets, IsForgotten, AfterStore}
use Rattle.counting_loops.specs.Paces.{IsBetween}

-- ---- what is forgotten

pub forgets : (base count : ℕ) (r : Range) (k : ℕ) (h g : Held) → IsForgotten base count r h g → Forgets base count r k (pace_if h k) (pace_if g k)
forgets base count r k h g f = by (h.word == k) refl
  where
    by : (b : Bool) → (h.word == k) ≡ b → Forgets base count r k (pace_if h k) (pace_if g k)
    by true e =
        let same : h.word ≡ k = grind (arith, nat_tests) in
        let e' : (g.word == k) ≡ true = rw f.0 e in
        rw (e, e') (rw same at f.1)
    by false e =
        let e' : (g.word == k) ≡ false = rw f.0 e in
        rw (e, e') (inl refl)

-- the entry j, too
module _ (base count : ℕ) (r : Range) (old now : List Held) (j : ℕ) (g : Held) (low : j < length now) (some : j < length old) where
  pub forgets_done : ((k : ℕ) (d : Held) → k < j → IsForgotten base count r (slice_index_or old k d) (slice_index_or now k d))
      → (e : Held) → slice_index_or now j e ≡ slice_index_or old j e → IsForgotten base count r (slice_index_or now j e) g
      → (k : ℕ) (d : Held) → k < j + 1 → IsForgotten base count r (slice_index_or old k d) (slice_index_or (slice_set now j g) k d)
  forgets_done done e same one k d h = ⊎_elim
      (λ (is : k ≡ j). rw (is, get_or-set_same now j g d low, get_or_default old j d e some, ← same) one)
      (λ (ne : k ≢ j). rw (get_or-set_other now j k g d ne) (done k d (omega arith)))
      (cases_eq k j)

  pub forgets_rest : ((k : ℕ) (d : Held) → j ≤ k → slice_index_or now k d ≡ slice_index_or old k d)
      → (k : ℕ) (d : Held) → j + 1 ≤ k → slice_index_or (slice_set now j g) k d ≡ slice_index_or old k d
  forgets_rest rest k d h = let ne : k ≢ j = omega arith in rw (get_or-set_other now j k g d ne) (rest k d (omega arith))

-- where the first round stores at `at` and round i at x, both in the range
pub after_forget : (c : CaseData) (size : Size) (i at x v w k : ℕ) (r : Range) (before after : Pace) → IsBetween r at → IsBetween r x
    → Forgets c.ram_base (count_of size) r k before after → AfterStore c size i at x v w k before after
after_forget c size i at x v w k r before after here there f = ⊎_elim
    (λ (u : after ≡ Unknown). inl u)
    (λ (kept : (after ≡ before) × RangeMisses c.ram_base (count_of size) r k). inr (inl (kept.0, (within here kept.1, within there kept.1))))
    f
  where
    within : {y : ℕ} → IsBetween r y → RangeMisses c.ram_base (count_of size) r k → Misses c.ram_base (count_of size) y k
    within {y} b m =
        let least = b.least in
        let most = b.most in
        ⊎_elim (λ (h : r.most + count_of size ≤ c.ram_base + 4 * k). inl (omega arith)) (λ (h : c.ram_base + 4 * k + 4 ≤ r.least). inr (omega arith)) m
