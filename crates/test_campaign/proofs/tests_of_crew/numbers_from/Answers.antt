use Rattle.std.proofs.Common.{◌≡◌, ℕ, [], ◌∷◌, ◌++◌, ◌+◌, ◌<◌, ◌≤◌, ◌==◌, cond, Bool, true, false, List, refl, ap, sym, subst, arith}
use Rattle.std.proofs.lemmas.Bool.Decides.{nat_tests}
use Rattle.std.proofs.lemmas.List.Elements.{All-push, All-weaker, All-same}
use Rattle.std.proofs.lemmas.List.Sums.{sum_by-cons, sum_by-append}
use Rattle.job_queue.specs.Pages.{times_among, AreDistinct}
use Rattle.test_campaign.proofs.tests_of_crew.numbers_from.Goals as goal

-- a number behind the others is once more in the list, and no other one
once_more : (x m : ℕ) (xs : List ℕ) (b : Bool) → (m == x) ≡ b → times_among x (xs ++ m ∷ []) ≡ times_among x xs + cond b 1 0
once_more x m xs b e =
    let one : ℕ → ℕ = λ y. cond (y == x) 1 0 in
    let here : one m ≡ cond b 1 0 = ap (λ (c : Bool). cond c 1 0) e in
    omega (arith, sum_by-append one xs (m ∷ []), sum_by-cons one m [], here)

-- the list has each number once at most, and none from m on; so it is with m behind it
one_on : (x m : ℕ) (xs : List ℕ) → times_among x xs ≤ 1 → (m ≤ x → times_among x xs ≡ 0) → (b : Bool) → (m == x) ≡ b → (times_among x (xs ++ m ∷ []) ≤ 1) × (m + 1 ≤ x → times_among x (xs ++ m ∷ []) ≡ 0)
one_on x m xs few none true e =
    let same : m ≡ x = grind (arith, nat_tests) in
    let gone : times_among x xs ≡ 0 = none (omega (arith, same)) in
    (omega (arith, once_more x m xs true e, gone), λ above. absurd (omega (arith, same, above)))
one_on x m xs few none false e =
    let stays : times_among x (xs ++ m ∷ []) ≡ times_among x xs + 0 = once_more x m xs false e in
    (omega (arith, stays, few), λ above. omega (arith, stays, none (omega (arith, above))))

pub loop-number-preserved : goal.loop-number-preserved
loop-number-preserved c =
    let i = c.loop-number.invariant in
    let e = c.in_ok-push.ensures in
    let n = c.loop-number.number in
    let old = c.loop-number.numbers.items in
    let more = All-push (λ k. k < n + 1) old n (All-weaker (λ k. k < n) (λ k. k < n + 1) (λ k below. omega (arith, below)) old i.below) (omega arith) in
    record {
      apart = subst (λ l. AreDistinct l) (sym e.items) (λ x. (one_on x n old (i.apart x) (i.ahead x) (n == x) refl).0);
      below = All-same (λ k. k < n + 1) c.push.new.self.items (old ++ n ∷ []) e.items more;
      ahead = λ x above. subst (λ (l : List ℕ). times_among x l ≡ 0) (sym e.items) ((one_on x n old (i.apart x) (i.ahead x) (n == x) refl).1 above);
      count = omega (arith, i.count, e.len);
    }
