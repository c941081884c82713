-- The next touch of a cell, by the places of its touches.
use Rattle.std.proofs.Common.{◌≡◌, ℕ, zero, suc, ◌+◌, ◌-◌, ◌<◌, ◌≤◌, Bool, List, [], length, get_or, Option, Some, None, refl, sym, ap, ◌∙◌, ⊎_elim, arith}
use Rattle.std.specs.Prelude.{slice_index, All}
use Rattle.std.proofs.lemmas.Bool.{cases_lt}
use Rattle.fs_model.specs.declared.events.Touch.{Touch}
use Rattle.fs_model.specs.TouchList.{IsAscendingWithin}
use Rattle.fs_model.specs.AccessLog.{next_touch}
use Rattle.fs_model.specs.Job.{log_of}
use Rattle.access_log.specs.Places.{touch_at, one_if_touched, touches_before, touches_below, place, IsTouchIndex}
use Rattle.access_log.proofs.Touched.{untouched_above}
use Rattle.access_log.proofs.Order.{before_touch, below_more, place_inside}
use Rattle.access_log.proofs.Scan.{found_here, go_further, past_end}

-- ---- the touch at a place

-- a cycle that touches the cell, after so many others
pub record IsNth (touches : List (List Touch)) (cell k n t : ℕ) : Type 0 where
  pub early : t < n
  pub is : one_if_touched (touch_at touches cell t) ≡ 1
  pub at : touches_before touches cell t ≡ k

pub nth : (touches : List (List Touch)) (cell k n : ℕ) → k < touches_before touches cell n → (t : ℕ) × IsNth touches cell k n t
unfolding touches_before
nth touches cell k zero h = absurd (omega arith)
nth touches cell k (suc n) h =
    ⊎_elim (λ (low : k < touches_before touches cell n). let r = nth touches cell k n low in (r.0, record { early = omega (arith, r.1.early); is = r.1.is; at = r.1.at }))
    (λ (high : touches_before touches cell n ≤ k). (n, by (touch_at touches cell n) refl high h))
    (cases_lt k (touches_before touches cell n))
  where
    by : (a : Option Bool) → touch_at touches cell n ≡ a → touches_before touches cell n ≤ k → k < touches_before touches cell n + one_if_touched a → IsNth touches cell k (suc n) n
    by None is high h' = absurd (omega arith)
    by (Some reads) is high h' = record { early = omega arith; is = ap one_if_touched is; at = omega arith }

-- the cycle at a place of the cell
pub record IsAt (touches : List (List Touch)) (cell : ℕ) (cycles : List ℕ) (p : ℕ) : Type 0 where
  pub early : slice_index cycles p < length touches
  pub is : one_if_touched (touch_at touches cell (slice_index cycles p)) ≡ 1
  pub at : place touches cell (slice_index cycles p) ≡ p

pub cycle_at : (touches : List (List Touch)) (cells cell p : ℕ) (starts cycles : List ℕ) → IsTouchIndex touches cells starts cycles → cell < cells → touches_below touches cell ≤ p → p < touches_below touches (cell + 1) → IsAt touches cell cycles p
cycle_at touches cells cell p starts cycles index inside low high =
    let r = nth touches cell (p - touches_below touches cell) (length touches) (omega (arith, below_more touches cell)) in
    let here : place touches cell r.0 ≡ p = omega (arith, r.1.at) in
    let same : slice_index cycles p ≡ r.0 = rw here at (index.cycle cell r.0 inside r.1.early r.1.is) in
    record { early = omega (arith, same, r.1.early); is = rw same r.1.is; at = rw same here }

pub cycles_up : (touches : List (List Touch)) (cells cell i j : ℕ) (starts cycles : List ℕ) → IsTouchIndex touches cells starts cycles → cell < cells → touches_below touches cell ≤ i → i ≤ j → j < touches_below touches (cell + 1) → slice_index cycles i ≤ slice_index cycles j
cycles_up touches cells cell i j starts cycles index inside low le high =
    let a = cycle_at touches cells cell i starts cycles index inside low (omega arith) in
    let b = cycle_at touches cells cell j starts cycles index inside (omega arith) high in
    ⊎_elim (λ (h : slice_index cycles j < slice_index cycles i).
    let less = before_touch touches cell (slice_index cycles j) (slice_index cycles i) h b.is in
    absurd (omega (arith, a.at, b.at)))
    (λ (h : slice_index cycles i ≤ slice_index cycles j). h)
    (cases_lt (slice_index cycles j) (slice_index cycles i))

-- ---- along the cycles

none_of : (a : Option Bool) → (one_if_touched a ≡ 1 → ⊥) → a ≡ None
none_of None h = refl
none_of (Some reads) h = absurd (h refl)

skip : (touches : List (List Touch)) (ram : ℕ) (pc : Bool) (cell from d : ℕ) → from + d ≤ length touches → ((v : ℕ) → from ≤ v → v < from + d → touch_at touches cell v ≡ None) →
    next_touch (log_of touches ram pc) cell from ≡ next_touch (log_of touches ram pc) cell (from + d)
skip touches ram pc cell from zero low none = let e : from + 0 ≡ from = omega arith in rw e refl
skip touches ram pc cell from (suc d) low none =
    let e : from + suc d ≡ (from + 1) + d = omega arith in
    go_further touches ram pc cell from (get_or touches from []) (omega arith) refl (sym (none from (omega arith) (omega arith)))
    ∙ skip touches ram pc cell (from + 1) d (omega arith) (λ v a b. none v (omega arith) (omega arith))
    ∙ ap (next_touch (log_of touches ram pc) cell) (sym e)

pub skip_to : (touches : List (List Touch)) (ram : ℕ) (pc : Bool) (cell from to : ℕ) → from ≤ to → to ≤ length touches → ((v : ℕ) → from ≤ v → v < to → one_if_touched (touch_at touches cell v) ≡ 1 → ⊥) →
    next_touch (log_of touches ram pc) cell from ≡ next_touch (log_of touches ram pc) cell to
skip_to touches ram pc cell from to a b none =
    let e : from + (to - from) ≡ to = omega arith in
    skip touches ram pc cell from (to - from) (omega arith) (λ v low high. none_of (touch_at touches cell v) (none v low (omega arith)))
    ∙ ap (next_touch (log_of touches ram pc) cell) e

pub nowhere : (touches : List (List Touch)) (ram : ℕ) (pc : Bool) (cell from : ℕ) → ((v : ℕ) → from ≤ v → v < length touches → one_if_touched (touch_at touches cell v) ≡ 1 → ⊥) →
    None ≡ next_touch (log_of touches ram pc) cell from
nowhere touches ram pc cell from none =
    ⊎_elim (λ (h : from < length touches). past_end touches ram pc cell (length touches) (omega arith) ∙ sym (skip_to touches ram pc cell from (length touches) (omega arith) (omega arith) none))
    (λ (h : length touches ≤ from). past_end touches ram pc cell from h)
    (cases_lt from (length touches))

pub no_cell : (touches : List (List Touch)) (ram : ℕ) (pc : Bool) (cells cell from : ℕ) → All (λ list. IsAscendingWithin 0 cells list) touches → cells ≤ cell → None ≡ next_touch (log_of touches ram pc) cell from
no_cell touches ram pc cells cell from all above =
    nowhere touches ram pc cell from (λ v low high is.
    let none = ap one_if_touched (untouched_above 0 cells (get_or touches v []) cell (all v [] high) above) in
    omega arith)

-- ---- the place that the search finds

pub record IsFirst (cycles : List ℕ) (low high from p : ℕ) : Type 0 where
  pub range : (low ≤ p) × (p ≤ high)
  pub below : (i : ℕ) → low ≤ i → i < p → slice_index cycles i < from
  pub above : (i : ℕ) → p ≤ i → i < high → from ≤ slice_index cycles i

-- a touch from there on stands at the place or behind it
behind : (touches : List (List Touch)) (cells cell from p : ℕ) (starts cycles : List ℕ) → IsTouchIndex touches cells starts cycles → cell < cells → IsFirst cycles (touches_below touches cell) (touches_below touches (cell + 1)) from p →
    (v : ℕ) → from ≤ v → v < length touches → one_if_touched (touch_at touches cell v) ≡ 1 → p ≤ place touches cell v
behind touches cells cell from p starts cycles index inside first v low high is =
    ⊎_elim (λ (h : place touches cell v < p).
    let less = first.below (place touches cell v) (omega arith) h in
    absurd (omega (arith, index.cycle cell v inside high is)))
    (λ (h : p ≤ place touches cell v). h)
    (cases_lt (place touches cell v) p)

pub none_from : (touches : List (List Touch)) (ram : ℕ) (pc : Bool) (cells cell from p : ℕ) (starts cycles : List ℕ) → IsTouchIndex touches cells starts cycles → cell < cells →
    IsFirst cycles (touches_below touches cell) (touches_below touches (cell + 1)) from p → p ≡ touches_below touches (cell + 1) → None ≡ next_touch (log_of touches ram pc) cell from
none_from touches ram pc cells cell from p starts cycles index inside first end =
    nowhere touches ram pc cell from (λ v low high is.
    omega (arith, behind touches cells cell from p starts cycles index inside first v low high is, place_inside touches cell v (cell + 1) high (omega arith) is))

pub found_at : (touches : List (List Touch)) (ram : ℕ) (pc : Bool) (cells cell from p : ℕ) (starts cycles : List ℕ) (reads : Bool) → IsTouchIndex touches cells starts cycles → cell < cells →
    IsFirst cycles (touches_below touches cell) (touches_below touches (cell + 1)) from p → p < touches_below touches (cell + 1) → Some reads ≡ touch_at touches cell (slice_index cycles p) →
    Some (slice_index cycles p, reads) ≡ next_touch (log_of touches ram pc) cell from
found_at touches ram pc cells cell from p starts cycles reads index inside first low is =
    let here = cycle_at touches cells cell p starts cycles index inside first.range.0 low in
    let u = slice_index cycles p in
    found_here touches ram pc cell u reads (get_or touches u []) here.early refl is
    ∙ sym (skip_to touches ram pc cell from u (first.above p (omega arith) low) (omega (arith, here.early)) (λ v a b touched.
    let less = before_touch touches cell v u b touched in
    let at = behind touches cells cell from p starts cycles index inside first v a (omega (arith, here.early)) touched in
    omega (arith, here.at)))
