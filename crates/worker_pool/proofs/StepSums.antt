-- The steps of all workers together.
use Rattle.std.proofs.Common.{◌≡◌, ℕ, suc, ◌+◌, ◌-◌, ◌^◌, ◌<◌, ◌≤◌, Bool, true, false, List, [], ◌∷◌, ◌++◌, length, get_or, set, take, drop, refl, ◌∙◌, arith, length-append}
use Rattle.std.specs.Prelude.{min, sum_by, flat_map}
use Rattle.experiment.specs.Jobs.{RoseAs}
use Rattle.job_queue.specs.Pages.{HasSame}
use Rattle.job_queue.proofs.Keeps.{length_same}
use Rattle.std.proofs.lemmas.List.{length-take-le, take_all, take-append-le}
use Rattle.std.proofs.lemmas.List.Sums.{sum_by-cons, sum_by-append, sum_by-set, sum_by-take-drop}

abbrev capped : ℕ → ℕ
capped n = min n (2 ^ 64 - 1)

module _ {W : Type 0} (taken : W → ℕ) (claims : W → List ℕ) (cost : List ℕ → ℕ) (weight : ℕ → ℕ) (sums : (xs : List ℕ) → cost xs ≡ sum_by weight xs) where
  -- where each rises by the cost of its claims, the sum rises by the sum of the costs
  sums_rise : (vs ws : List W) → length ws ≡ length vs
      → ((k : ℕ) (d : W) → k < length vs → taken (get_or ws k d) ≡ capped (taken (get_or vs k d) + cost (claims (get_or ws k d))))
      → capped (sum_by taken ws) ≡ capped (sum_by taken vs + sum_by weight (flat_map claims ws))
  sums_rise [] [] len each = refl
  sums_rise [] (w ∷ ws) len each = absurd (omega arith)
  sums_rise (v ∷ vs) [] len each = absurd (omega arith)
  sums_rise (v ∷ vs) (w ∷ ws) len each =
      let here : taken w ≡ capped (taken v + cost (claims w)) = each 0 v (omega arith) in
      let more = sums_rise vs ws (omega arith) (λ k d below. each (suc k) d (omega arith)) in
      omega (arith, here, sums (claims w), more, sum_by-cons taken v vs, sum_by-cons taken w ws, sum_by-append weight (claims w) (flat_map claims ws))

  -- where each rises by at most that, and by one for each claim at least, so does the sum
  sums_low : (vs ws : List W) → length ws ≡ length vs
      → ((k : ℕ) (d : W) → k < length vs → capped (taken (get_or vs k d) + length (claims (get_or ws k d))) ≤ taken (get_or ws k d))
      → capped (sum_by taken vs + length (flat_map claims ws)) ≤ capped (sum_by taken ws)
  sums_low [] [] len each = omega arith
  sums_low [] (w ∷ ws) len each = absurd (omega arith)
  sums_low (v ∷ vs) [] len each = absurd (omega arith)
  sums_low (v ∷ vs) (w ∷ ws) len each =
      let here : capped (taken v + length (claims w)) ≤ taken w = each 0 v (omega arith) in
      let more = sums_low vs ws (omega arith) (λ k d below. each (suc k) d (omega arith)) in
      omega (arith, here, more, sum_by-cons taken v vs, sum_by-cons taken w ws, length-append (claims w) (flat_map claims ws))

  sums_high : (vs ws : List W) → length ws ≡ length vs
      → ((k : ℕ) (d : W) → k < length vs → taken (get_or ws k d) ≤ taken (get_or vs k d) + cost (claims (get_or ws k d)))
      → sum_by taken ws ≤ sum_by taken vs + sum_by weight (flat_map claims ws)
  sums_high [] [] len each = omega arith
  sums_high [] (w ∷ ws) len each = absurd (omega arith)
  sums_high (v ∷ vs) [] len each = absurd (omega arith)
  sums_high (v ∷ vs) (w ∷ ws) len each =
      let here : taken w ≤ taken v + cost (claims w) = each 0 v (omega arith) in
      let more = sums_high vs ws (omega arith) (λ k d below. each (suc k) d (omega arith)) in
      omega (arith, here, sums (claims w), more, sum_by-cons taken v vs, sum_by-cons taken w ws, sum_by-append weight (claims w) (flat_map claims ws))

  -- and that is the cost of the page, where the claims are the page
  pub all_rise : (meets : Bool) (vs ws : List W) (page : List ℕ) → length ws ≡ length vs
      → ((k : ℕ) (d : W) → k < length vs → RoseAs meets (length (claims (get_or ws k d))) (taken (get_or vs k d)) (cost (claims (get_or ws k d))) (taken (get_or ws k d)))
      → HasSame page (flat_map claims ws) → RoseAs meets (length page) (capped (sum_by taken vs)) (cost page) (capped (sum_by taken ws))
  all_rise false vs ws page len each same =
      let rise = sums_rise vs ws len each in
      omega (arith, rise, same weight, sums page)
  all_rise true vs ws page len each same =
      let low = sums_low vs ws len (λ k d below. (each k d below).0) in
      let high = sums_high vs ws len (λ k d below. (each k d below).1) in
      let long = length_same page (flat_map claims ws) same in
      (omega (arith, low, long), omega (arith, high, same weight, sums page))

-- where the sum of the first ones rises, and the others are as they were, the sum of all rises
pub part_rises : {W : Type 0} (meets : Bool) (taken : W → ℕ) (jobs steps n : ℕ) (all first : List W) → RoseAs meets jobs (capped (sum_by taken (take n all))) steps (capped (sum_by taken first))
    → RoseAs meets jobs (capped (sum_by taken all)) steps (capped (sum_by taken (first ++ drop n all)))
part_rises false taken jobs steps n all first rise = omega (arith, rise, sum_by-append taken first (drop n all), sum_by-take-drop taken all n)
part_rises true taken jobs steps n all first rise =
    let low = rise.0 in
    let high = rise.1 in
    (omega (arith, low, sum_by-append taken first (drop n all), sum_by-take-drop taken all n), omega (arith, high, sum_by-append taken first (drop n all), sum_by-take-drop taken all n))

-- a slice of a whole Vec, written back
pub written_back : {W : Type 0} (xs ys : List W) (n : ℕ) → length ys ≡ n → take n (ys ++ drop (length ys) xs) ≡ ys
written_back xs ys n len = take-append-le n ys (drop (length ys) xs) (omega arith) ∙ take_all n ys (omega arith)

-- the first ones of a list, where they were replaced
pub first_ones : {W : Type 0} (n : ℕ) (all first : List W) → n ≤ length all → length first ≡ length (take n all) → take n (first ++ drop n all) ≡ first
first_ones n all first within same =
    let long = length-take-le n all within in
    take-append-le n first (drop n all) (omega (arith, same, long)) ∙ take_all n first (omega (arith, same, long))

-- where one of them is replaced by one that took as many steps, the sum is the same
pub one_replaced : {W : Type 0} (taken : W → ℕ) (all : List W) (i : ℕ) (new d : W) → i < length all → taken new ≡ taken (get_or all i d) → capped (sum_by taken (set all i new)) ≡ capped (sum_by taken all)
one_replaced taken all i new d inside same = let e = sum_by-set taken all i new d inside in omega (arith, e, same)
