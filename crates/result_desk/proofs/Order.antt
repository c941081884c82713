-- Names and places in order.
use Rattle.std.proofs.Common.{◌≡◌, ℕ, ◌<◌, ◌≤◌, Bool, true, false, cond, Ordering, Less, Equal, Greater, List, get_or, refl, sym, ap, ◌∙◌, ⊎_elim, arith}
use Rattle.std.specs.Prelude.{◌==◌, ◌&&◌, ◌||◌, nat_lt}
use Rattle.std.specs.Ordering.{is_lt, nat_cmp, ordering_then}
use Rattle.std.specs.Cmp.{IsTotalOrder}
use Rattle.std.specs.List.Sorted.{IsSorted}
use Rattle.std.proofs.lemmas.Bool.{lt-ltb, le-ltb, ltb-true, ltb-false, eqb-true, eqb-false, eq-eqb, or_parts, or_cases, or_left, or_right, and_parts, and_cases, and_from, cases_lt}
use Rattle.std.proofs.lemmas.Cmp.{on_total, then_total, nat_cmp_total}
use Rattle.std.proofs.lemmas.List.Sorted.{ranks_by, sorted_far}
use Rattle.std.proofs.lemmas.Option.{slice_get_within, get_or_from_slice_get}
use Rattle.fs_model.specs.declared.sites.Site.{Site}
use Rattle.fs_model.specs.Site.{same_site}
use Rattle.result_desk.specs.declared.pages.Named.{Named}
use Rattle.result_desk.specs.Index.{is_below, is_of, with_place, named_site, IsUp}

-- ---- one number, and then the rest

step : (x y z : ℕ) (p q r : Bool) → (p ≡ false → q ≡ true → r ≡ true) → (nat_lt y x || (y == x && p)) ≡ false → (nat_lt y z || (y == z && q)) ≡ true → (nat_lt x z || (x == z && r)) ≡ true
step x y z p q r rest a b =
    let low : x ≤ y = ltb-false y x (or_parts _ _ a).0 in
    ⊎_elim
    (λ (l : nat_lt y z ≡ true). let m : y < z = ltb-true y z l in or_left (nat_lt x z) _ (lt-ltb x z (omega arith)))
    (λ (e : (y == z && q) ≡ true).
    let parts = and_parts (y == z) q e in
    let same : y ≡ z = eqb-true y z parts.0 in
    ⊎_elim
    (λ (l : x < y). or_left (nat_lt x z) _ (lt-ltb x z (omega arith)))
    (λ (g : y ≤ x).
    let here : y ≡ x = omega arith in
    let none : p ≡ false = ⊎_elim (λ (n : (y == x) ≡ false). absurd (eqb-false y x n here)) (λ (n : p ≡ false). n) (and_cases (y == x) p (or_parts _ _ a).1) in
    or_right (nat_lt x z) _ (and_from (x == z) r (eq-eqb x z (sym here ∙ same)) (rest none parts.1)))
    (cases_lt x y))
    (or_cases _ _ b)

last : (x y z : ℕ) → nat_lt y x ≡ false → nat_lt y z ≡ true → nat_lt x z ≡ true
last x y z a b =
    let low : x ≤ y = ltb-false y x a in
    let high : y < z = ltb-true y z b in
    lt-ltb x z (omega arith)

gap : (x y : ℕ) (p q r : Bool) → (p ≡ false → q ≡ false → r ≡ true) → (nat_lt x y || (x == y && p)) ≡ false → (x == y && q) ≡ false → (nat_lt y x || (y == x && r)) ≡ true
gap x y p q r rest a b =
    let low : y ≤ x = ltb-false x y (or_parts _ _ a).0 in
    ⊎_elim
    (λ (l : y < x). or_left (nat_lt y x) _ (lt-ltb y x l))
    (λ (g : x ≤ y).
    let here : x ≡ y = omega arith in
    let one : p ≡ false = ⊎_elim (λ (n : (x == y) ≡ false). absurd (eqb-false x y n here)) (λ (n : p ≡ false). n) (and_cases (x == y) p (or_parts _ _ a).1) in
    let two : q ≡ false = ⊎_elim (λ (n : (x == y) ≡ false). absurd (eqb-false x y n here)) (λ (n : q ≡ false). n) (and_cases (x == y) q b) in
    or_right (nat_lt y x) _ (and_from (y == x) r (eq-eqb y x (sym here)) (rest one two)))
    (cases_lt y x)

gap_last : (x y : ℕ) (p r : Bool) → (nat_lt x y || (x == y && p)) ≡ false → (x == y) ≡ false → (nat_lt y x || (y == x && r)) ≡ true
gap_last x y p r a b =
    let low : y ≤ x = ltb-false x y (or_parts _ _ a).0 in
    ⊎_elim (λ (l : y < x). or_left (nat_lt y x) _ (lt-ltb y x l)) (λ (g : x ≤ y). let here : x ≡ y = omega arith in absurd (eqb-false x y b here)) (cases_lt y x)

self : (x : ℕ) (p : Bool) → (nat_lt x x || (x == x && p)) ≡ p
self x p = rw (le-ltb x x (omega arith), eq-eqb x x refl) refl

-- ---- names with their places

-- what comes no later than one that is below is below
pub below_on : (a b p : Named) → is_below b a ≡ false → is_below b p ≡ true → is_below a p ≡ true
unfolding is_below
below_on a b p = step a.cycle b.cycle p.cycle _ _ _ (step a.cell b.cell p.cell _ _ _ (step a.bit b.bit p.bit _ _ _ (last a.place b.place p.place)))

-- of another name and not below: then it is above
pub above_name : (a : Named) (site : Site) (k : ℕ) → is_below a (with_place site 0) ≡ false → is_of a site ≡ false → is_below (with_place site k) a ≡ true
unfolding is_below same_site
above_name a site k = gap a.cycle site.cycle _ _ _ (gap a.cell site.cell _ _ _ (gap_last a.bit site.bit (nat_lt a.place 0) (nat_lt k a.place)))

-- two of one name stand in the order of their places
pub same_name : (site : Site) (j k : ℕ) → is_below (with_place site j) (with_place site k) ≡ nat_lt j k
unfolding is_below
same_name site j k = self site.cycle _ ∙ (self site.cell _ ∙ self site.bit _)

pub site_is : (a b : Site) → same_site a b ≡ true → a ≡ b
unfolding same_site
site_is a b h =
    let first = and_parts (a.cycle == b.cycle) (a.cell == b.cell && a.bit == b.bit) h in
    let rest = and_parts (a.cell == b.cell) (a.bit == b.bit) first.1 in
    let x : a.cycle ≡ b.cycle = eqb-true _ _ first.0 in
    let y : a.cell ≡ b.cell = eqb-true _ _ rest.0 in
    let z : a.bit ≡ b.bit = eqb-true _ _ rest.1 in
    λ i. record { cycle = x i; cell = y i; bit = z i }

pub same_itself : (a : Site) → same_site a a ≡ true
unfolding same_site
same_itself a = and_from _ _ (eq-eqb a.cycle a.cycle refl) (and_from _ _ (eq-eqb a.cell a.cell refl) (eq-eqb a.bit a.bit refl))

pub name_is : (a : Named) (site : Site) → is_of a site ≡ true → a ≡ with_place site a.place
name_is a site h = ap (λ (s : Site). with_place s a.place) (site_is (named_site a) site h)

-- ---- what a sort gives

abbrev pub named_cmp : Named → Named → Ordering
named_cmp a b = ordering_then (nat_cmp a.cycle b.cycle) (ordering_then (nat_cmp a.cell b.cell) (ordering_then (nat_cmp a.bit b.bit) (nat_cmp a.place b.place)))

tests : (b c : Bool) (o : Ordering) → is_lt (ordering_then (cond b Less (cond c Equal Greater)) o) ≡ (b || (c && is_lt o))
tests true c o = refl
tests false true o = refl
tests false false o = refl

test : (b c : Bool) → is_lt (cond b Less (cond c Equal Greater)) ≡ b
test true c = refl
test false true = refl
test false false = refl

below_is : (a b : Named) → is_lt (named_cmp a b) ≡ is_below a b
unfolding is_below
below_is a b =
    tests (nat_lt a.cycle b.cycle) (a.cycle == b.cycle) _
    ∙ ap (λ r. nat_lt a.cycle b.cycle || (a.cycle == b.cycle && r))
    (tests (nat_lt a.cell b.cell) (a.cell == b.cell) _
    ∙ ap (λ r. nat_lt a.cell b.cell || (a.cell == b.cell && r))
    (tests (nat_lt a.bit b.bit) (a.bit == b.bit) _ ∙ ap (λ r. nat_lt a.bit b.bit || (a.bit == b.bit && r)) (test (nat_lt a.place b.place) (a.place == b.place))))

named_total : IsTotalOrder named_cmp
named_total =
    then_total (on_total (λ (a : Named). a.cycle) nat_cmp_total)
    (then_total (on_total (λ (a : Named). a.cell) nat_cmp_total) (then_total (on_total (λ (a : Named). a.bit) nat_cmp_total) (on_total (λ (a : Named). a.place) nat_cmp_total)))

pub up_of : (index : List Named) → IsSorted named_cmp index → IsUp index
up_of index sorted i j a b le at bt =
    let far = sorted_far (λ x y. is_lt (named_cmp x y)) (ranks_by named_total (λ x. x)) index sorted i j a le (slice_get_within index j b bt) in
    let x : get_or index i a ≡ a = get_or_from_slice_get index i a a at in
    let y : get_or index j a ≡ b = get_or_from_slice_get index j b a bt in
    sym (below_is b a) ∙ (sym (ap (λ v. is_lt (named_cmp v a)) y) ∙ (sym (ap (λ v. is_lt (named_cmp (get_or index j a) v)) x) ∙ far))
