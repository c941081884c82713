use Rattle.std.proofs.Common.{◌≡◌, ℕ, ◌+◌, ◌<◌, ◌≤◌, ◌∙◌, List, [], Option, None, Bool, length, get_or, sym, ap, arith}
use Rattle.std.specs.Prelude.{slice_index}
use Rattle.std.proofs.lemmas.List.{get_or_default, get_or_read}
use Rattle.fs_model.specs.declared.events.Touch.{Touch}
use Rattle.fs_model.specs.TouchList.{touch_in}
use Rattle.access_log.specs.Places.{touches_below, touch_at, one_if_touched, IsTouchIndex}
use Rattle.access_log.proofs.Order.{below_mono, below-le}
use Rattle.access_log.proofs.Next.{IsFirst, cycle_at, cycles_up, no_cell, none_from, found_at}
use Rattle.access_log.proofs.logs.next_of.Goals as goal

start_is : (touches : List (List Touch)) (cells cell : ℕ) (starts cycles : List ℕ) (n : ℕ) → IsTouchIndex touches cells starts cycles → cell ≤ cells → n ≡ get_or starts cell n → n ≡ touches_below touches cell
start_is touches cells cell starts cycles n index low is =
    is ∙ get_or_default starts cell n 0 (omega (arith, index.long)) ∙ index.start cell low

first_is : (cycles cycles' : List ℕ) (low high low' high' from p : ℕ) → cycles' ≡ cycles → low' ≡ low → high' ≡ high → IsFirst cycles' low' high' from p → IsFirst cycles low high from p
first_is cycles cycles' low high low' high' from p a b d first = rw (a, b, d) at first

-- an access that touches
touched_here : (a b : Option Bool) → a ≡ b → one_if_touched b ≡ 1 → a ≡ None → ⊥
touched_here a b same is none = let e : one_if_touched b ≡ 0 = ap one_if_touched (sym same ∙ none) in omega arith

pub returns-then-cell-cells : goal.returns-then-cell-cells
returns-then-cell-cells c = λ ram pc. no_cell c.args.touches.now ram pc c.args.cells c.args.cell c.args.from c.requires.ascending c.if-cell-cells.true

pub first_from-place-requires-clause-range : goal.first_from-place-requires-clause-range
first_from-place-requires-clause-range c =
    let low = start_is c.args.touches.now c.args.cells c.args.cell _ _ c.index-low.result.now c.requires.index (omega arith) c.index-low.ensures in
    let high = start_is c.args.touches.now c.args.cells (c.args.cell + 1) _ _ c.index-high.result.now c.requires.index (omega arith) c.index-high.ensures in
    omega (arith, low, high, below_mono c.args.touches.now c.args.cell (c.args.cell + 1) (omega arith))

pub first_from-place-requires-clause-room : goal.first_from-place-requires-clause-room
first_from-place-requires-clause-room c =
    let high = start_is c.args.touches.now c.args.cells (c.args.cell + 1) _ _ c.index-high.result.now c.requires.index (omega arith) c.index-high.ensures in
    omega (arith, high, ap length c.as_slice-cycles.ensures.value, c.requires.index.full, below_mono c.args.touches.now (c.args.cell + 1) c.args.cells (omega arith))

pub first_from-place-requires-clause-ascending : goal.first_from-place-requires-clause-ascending
first_from-place-requires-clause-ascending c = λ i j a b d.
    let low = start_is c.args.touches.now c.args.cells c.args.cell _ _ c.index-low.result.now c.requires.index (omega arith) c.index-low.ensures in
    let high = start_is c.args.touches.now c.args.cells (c.args.cell + 1) _ _ c.index-high.result.now c.requires.index (omega arith) c.index-high.ensures in
    rw c.as_slice-cycles.ensures.value (cycles_up c.args.touches.now c.args.cells c.args.cell i j _ _ c.requires.index c.if-cell-cells.false (omega arith) b (omega arith))

pub returns-then-place-high : goal.returns-then-place-high
returns-then-place-high c = λ ram pc.
    let low = start_is c.args.touches.now c.args.cells c.args.cell _ _ c.index-low.result.now c.requires.index (omega arith) c.index-low.ensures in
    let high = start_is c.args.touches.now c.args.cells (c.args.cell + 1) _ _ c.index-high.result.now c.requires.index (omega arith) c.index-high.ensures in
    let first = first_is c.args.index.now.cycles.items _ _ _ _ _ c.args.from c.first_from-place.result c.as_slice-cycles.ensures.value low high (record { range = c.first_from-place.ensures.range; below = c.first_from-place.ensures.below; above = c.first_from-place.ensures.above }) in
    none_from c.args.touches.now ram pc c.args.cells c.args.cell c.args.from c.first_from-place.result _ _ c.requires.index c.if-cell-cells.false first (omega (arith, high, c.if-place-high.true))

pub offset_bounds-cycles-place : goal.offset_bounds-cycles-place
offset_bounds-cycles-place c =
    let high = start_is c.args.touches.now c.args.cells (c.args.cell + 1) _ _ c.index-high.result.now c.requires.index (omega arith) c.index-high.ensures in
    record { fits = omega (arith, high, c.first_from-place.ensures.range, below-le c.args.touches.now (c.args.cell + 1) c.requires.few) }

pub bounds-cycles-place : goal.bounds-cycles-place
bounds-cycles-place c =
    let high = start_is c.args.touches.now c.args.cells (c.args.cell + 1) _ _ c.index-high.result.now c.requires.index (omega arith) c.index-high.ensures in
    omega (arith, high, c.first_from-place.ensures.range, c.if-place-high.false, ap length c.as_slice-cycles.ensures.value, c.requires.index.full, below_mono c.args.touches.now (c.args.cell + 1) c.args.cells (omega arith))

pub bounds-touches-cycle : goal.bounds-touches-cycle
bounds-touches-cycle c =
    let low = start_is c.args.touches.now c.args.cells c.args.cell _ _ c.index-low.result.now c.requires.index (omega arith) c.index-low.ensures in
    let high = start_is c.args.touches.now c.args.cells (c.args.cell + 1) _ _ c.index-high.result.now c.requires.index (omega arith) c.index-high.ensures in
    let here = cycle_at c.args.touches.now c.args.cells c.args.cell c.first_from-place.result _ _ c.requires.index c.if-cell-cells.false (omega (arith, low, c.first_from-place.ensures.range)) (omega (arith, high, c.first_from-place.ensures.range, c.if-place-high.false)) in
    rw c.as_slice-cycles.ensures.value here.early

pub returns-in-Some : goal.returns-in-Some
returns-in-Some c = λ ram pc.
    let touches = c.args.touches.now in
    let p = c.first_from-place.result in
    let low = start_is c.args.touches.now c.args.cells c.args.cell _ _ c.index-low.result.now c.requires.index (omega arith) c.index-low.ensures in
    let high = start_is c.args.touches.now c.args.cells (c.args.cell + 1) _ _ c.index-high.result.now c.requires.index (omega arith) c.index-high.ensures in
    let first = first_is c.args.index.now.cycles.items _ _ _ _ _ c.args.from p c.as_slice-cycles.ensures.value low high (record { range = c.first_from-place.ensures.range; below = c.first_from-place.ensures.below; above = c.first_from-place.ensures.above }) in
    let inside : p < touches_below touches (c.args.cell + 1) = omega (arith, high, c.first_from-place.ensures.range, c.if-place-high.false) in
    let here = cycle_at touches c.args.cells c.args.cell p _ _ c.requires.index c.if-cell-cells.false first.range.0 inside in
    let u = slice_index c.args.index.now.cycles.items p in
    let list = c.index-touches-cycle.result in
    let at : list ≡ get_or touches u list = rw (← c.as_slice-cycles.ensures.value) c.index-touches-cycle.is in
    let same : list ≡ get_or touches u [] = get_or_read touches u list here.early at [] in
    rw c.as_slice-cycles.ensures.value (found_at touches ram pc c.args.cells c.args.cell c.args.from p _ _ c.in-Some.reads c.requires.index c.if-cell-cells.false first inside
    (c.in-Some.ensures ∙ ap (λ xs. touch_in xs c.args.cell) same))

pub returns-in-None : goal.returns-in-None
returns-in-None c = λ ram pc.
    let touches = c.args.touches.now in
    let p = c.first_from-place.result in
    let low = start_is c.args.touches.now c.args.cells c.args.cell _ _ c.index-low.result.now c.requires.index (omega arith) c.index-low.ensures in
    let high = start_is c.args.touches.now c.args.cells (c.args.cell + 1) _ _ c.index-high.result.now c.requires.index (omega arith) c.index-high.ensures in
    let here = cycle_at touches c.args.cells c.args.cell p _ _ c.requires.index c.if-cell-cells.false (omega (arith, low, c.first_from-place.ensures.range)) (omega (arith, high, c.first_from-place.ensures.range, c.if-place-high.false)) in
    let u = slice_index c.args.index.now.cycles.items p in
    let list = c.index-touches-cycle.result in
    let at : list ≡ get_or touches u list = rw (← c.as_slice-cycles.ensures.value) c.index-touches-cycle.is in
    let same : list ≡ get_or touches u [] = get_or_read touches u list here.early at [] in
    absurd (touched_here (touch_in list c.args.cell) (touch_at touches c.args.cell u) (ap (λ xs. touch_in xs c.args.cell) same) here.is (sym c.in-None.ensures))
