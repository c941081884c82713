-- Totals over sites one after another.
use Rattle.std.proofs.Common.{◌≡◌, ℕ, zero, suc, ◌+◌, List, [], ◌∷◌, ◌++◌, length, refl, sym, ◌∙◌, ap, subst, arith, add-zero, zero-add, length-append}
use Rattle.std.specs.Prelude.{Bool, true, false, if◌then◌else◌, map, filter, flat_map}
use Rattle.std.specs.List.{range_with_len}
use Rattle.std.proofs.lemmas.List.Elements.{filter-append}
use Rattle.std.proofs.lemmas.List.FromFn.{map-range_with_len_more}
use Rattle.std.proofs.lemmas.Grind.{flat_map-append}
use Rattle.fs_model.specs.declared.sites.Site.{Site}
use Rattle.fs_model.specs.declared.outcomes.Outcome.{Outcome}
use Rattle.fs_model.specs.Case.{CaseData}
use Rattle.fs_model.specs.Run.{cycles}
use Rattle.fs_model.specs.Site.{sites, sites_of, cycle_sites}
use Rattle.fs_model.specs.Outcome.{TotalsData, no_totals, total_at, sum_of, added, outcome, same_outcome, count}
use Rattle.fs_model.proofs.EachOutcome.{total_at-added, total_at-totals_of, sum_of-totals_of}
use Rattle.golden_trace.specs.Goldens.{GoldenData, IsGolden}
use Rattle.phases.proofs.Reported.{cycles_is}
use Rattle.plain_commands.specs.Counting.{count_among, AddsOutcomes}

count_among-append : (c : CaseData) (xs ys : List Site) (o : Outcome) → count_among c (xs ++ ys) o ≡ count_among c xs o + count_among c ys o
count_among-append c xs ys o =
    let p : Site → Bool = λ site. same_outcome (outcome c site) o in
    ap (λ (s : List Site). length s) (filter-append p xs ys) ∙ length-append (filter p xs) (filter p ys)

-- no sites
pub counts_none : (c : CaseData) (t : TotalsData) → AddsOutcomes c [] t t
counts_none c t = record { each = λ o. sym (add-zero (total_at t o)); sum = sym (add-zero (sum_of t)) }

-- some sites, and then others
pub counts_both : (c : CaseData) (xs ys : List Site) (old mid new : TotalsData) → AddsOutcomes c xs old mid → AddsOutcomes c ys mid new → AddsOutcomes c (xs ++ ys) old new
counts_both c xs ys old mid new a b = record {
  each = λ o. let front = a.each o in let back = b.each o in let both = count_among-append c xs ys o in omega (arith, front, back, both);
  sum = let front = a.sum in let back = b.sum in omega (arith, front, back, length-append xs ys);
}

one : (b : Bool) (site : Site) → (if b then 1 else 0) ≡ length (if b then site ∷ [] else [])
one true site = refl
one false site = refl

-- one site
pub counts_one : (c : CaseData) (site : Site) (o : Outcome) (old new : TotalsData) → o ≡ outcome c site → new ≡ added old o 1 → sum_of new ≡ sum_of old + 1 → AddsOutcomes c (site ∷ []) old new
counts_one c site o old new is adds sum = record {
  each = λ p.
      ap (λ (t : TotalsData). total_at t p) adds ∙ total_at-added old o p 1
      ∙ ap (λ (x : Outcome). total_at old p + (if same_outcome x p then 1 else 0)) is ∙ ap (λ n. total_at old p + n) (one (same_outcome (outcome c site) p) site);
  sum = sum;
}

range_more : (a n : ℕ) → range_with_len a (n + 1) ≡ range_with_len a n ++ (a + n) ∷ []
range_more a zero = ap (λ k. k ∷ []) (sym (add-zero a))
range_more a (suc n) = ap (range_with_len a) (let e : suc n + 1 ≡ suc (n + 1) = omega arith in e) ∙ ap (λ (xs : List ℕ). a ∷ xs) (range_more (a + 1) n ∙ ap (λ k. range_with_len (a + 1) n ++ k ∷ []) (omega arith))

-- the sites of one number more
pub flat_map_more : (f : ℕ → List Site) (a n k : ℕ) → a + n ≡ k → flat_map f (range_with_len a (n + 1)) ≡ flat_map f (range_with_len a n) ++ f k
flat_map_more f a n k is =
    ap (flat_map f) (range_more a n) ∙ flat_map-append f (range_with_len a n) ((a + n) ∷ [])
    ∙ ap (λ j. flat_map f (range_with_len a n) ++ flat_map f (j ∷ [])) is ∙ ap (λ (s : List Site). flat_map f (range_with_len a n) ++ s) (append_nil (f k))
  where
    append_nil : (xs : List Site) → xs ++ [] ≡ xs
    append_nil [] = refl
    append_nil (x ∷ xs) = ap (λ (s : List Site). x ∷ s) (append_nil xs)

-- the site of a bit more of a cell
pub counts_bit : (c : CaseData) (cycle cell bit : ℕ) (o : Outcome) (old mid new : TotalsData)
    → AddsOutcomes c (map (λ b. record { cycle = cycle; cell = cell; bit = b }) (range_with_len 0 bit)) old mid
    → o ≡ outcome c (record { cycle = cycle; cell = cell; bit = bit }) → new ≡ added mid o 1 → sum_of new ≡ sum_of mid + 1
    → AddsOutcomes c (map (λ b. record { cycle = cycle; cell = cell; bit = b }) (range_with_len 0 (bit + 1))) old new
counts_bit c cycle cell bit o old mid new before is adds sum =
    let site : ℕ → Site = λ b. record { cycle = cycle; cell = cell; bit = b } in
    let more = map-range_with_len_more site 0 bit bit (omega arith) in
    subst (λ (xs : List Site). AddsOutcomes c xs old new) (sym more)
    (counts_both c (map site (range_with_len 0 bit)) (site bit ∷ []) old mid new before (counts_one c (site bit) o mid new is adds sum))

-- the sites of one number more, each of which has some
pub counts_more : (c : CaseData) (f : ℕ → List Site) (a n k : ℕ) (old mid new : TotalsData) → a + n ≡ k
    → AddsOutcomes c (flat_map f (range_with_len a n)) old mid → AddsOutcomes c (f k) mid new → AddsOutcomes c (flat_map f (range_with_len a (n + 1))) old new
counts_more c f a n k old mid new is before here =
    subst (λ (xs : List Site). AddsOutcomes c xs old new) (sym (flat_map_more f a n k is)) (counts_both c (flat_map f (range_with_len a n)) (f k) old mid new before here)

-- all sites of a case
pub counts_all : (c : CaseData) (g : GoldenData) (n : ℕ) (t : TotalsData) → IsGolden c g → n ≡ length g.touches
    → AddsOutcomes c (flat_map (cycle_sites c.pc_cell (length c.ram)) (range_with_len 0 n)) no_totals t
    → ((o : Outcome) → total_at t o ≡ count c o) × (sum_of t ≡ length (sites_of c))
unfolding sites count
counts_all c g n t h is counted =
    let whole : n ≡ cycles c = is ∙ sym (cycles_is c g h) in
    let all : AddsOutcomes c (sites_of c) no_totals t = subst (λ k. AddsOutcomes c (flat_map (cycle_sites c.pc_cell (length c.ram)) (range_with_len 0 k)) no_totals t) whole counted in (
      λ o. all.each o ∙ ap (λ n. n + count_among c (sites_of c) o) (total_at-totals_of (λ p. 0) o) ∙ zero-add (count_among c (sites_of c) o),
      all.sum ∙ ap (λ n. n + length (sites_of c)) (sum_of-totals_of (λ p. 0)) ∙ zero-add (length (sites_of c)),
    )
