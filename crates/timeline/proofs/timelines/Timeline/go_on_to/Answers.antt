use Rattle.std.proofs.Common.{◌≡◌, ◌≤◌, true, false, ap, ◌∙◌, arith, is_some}
use Rattle.timeline.specs.Places.{last_of}
use Rattle.timeline.specs.Timelines.{TimelineData, next_hit}
use Rattle.timeline.proofs.StopLemmas.{forth, none_next, reached_none, reached_some, seek_first, seek_found, seek_here, seek_hit, seek_last, seek_on, seek_there, some_no_none}
use Rattle.timeline.proofs.timelines.Timeline.go_on_to.Goals as goal

pub returns-then-are_none : goal.returns-then-are_none
returns-then-are_none c =
    let t = c.args.self.now in
    let stops = c.args.stops.now in
    let watches = c.args.watches.now in
    let none = none_next t stops watches (c.are_none.ensures.stops c.if-are_none.true) (c.are_none.ensures.watches c.if-are_none.true) in
    let r = reached_none t c.go_to.new.self (forth t stops watches) (next_hit t.case t.flip stops watches t.place) (last_of t.case t.flip) c.last-last.result none c.last-last.ensures.value c.go_to.ensures in
    record { hit = r.hit; place = r.place; end = ap (λ (x : TimelineData). x.place) c.go_to.ensures ∙ c.last-last.ensures.value }

pub loop-place-init : goal.loop-place-init
loop-place-init c = seek_first c.args.self.now c.args.stops.now c.args.watches.now c.place-from.result c.place-from.ensures.value

pub hit_forth-hit-requires : goal.hit_forth-hit-requires
hit_forth-hit-requires c =
    let here = seek_here c.args.self.now c.loop-place.self c.args.stops.now c.args.watches.now c.loop-place.place c.loop-place.invariant in
    let last = seek_last c.args.self.now c.loop-place.self c.args.stops.now c.args.watches.now c.loop-place.place c.loop-place.invariant in
    record { next = omega arith; within = omega (arith, c.last-last.ensures.value) }

pub returns-then-is_some : goal.returns-then-is_some
returns-then-is_some c =
    let t = c.args.self.now in
    let stops = c.args.stops.now in
    let watches = c.args.watches.now in
    let place = c.loop-place.place in
    let from = c.loop-place.auto.place in
    let low : t.place ≤ place = omega (arith, c.place-from.ensures.value) in
    let told = c.hit_forth-hit.ensures.hit in
    let is : is_some c.hit_forth-hit.result ≡ true = cc in
    let found = seek_found t c.loop-place.self c.hit_forth-hit.new.self stops watches place c.hit_forth-hit.result c.loop-place.invariant low told is (omega (arith, c.last-last.ensures.value)) in
    let there = seek_there t c.loop-place.self c.hit_forth-hit.new.self stops watches place c.hit_forth-hit.result c.loop-place.invariant low c.hit_forth-hit.ensures.place in
    let hit = seek_hit t c.loop-place.self c.hit_forth-hit.new.self stops watches place c.hit_forth-hit.result c.loop-place.invariant low told in
    let r = reached_some t c.hit_forth-hit.new.self (forth t stops watches) (next_hit t.case t.flip stops watches t.place) (last_of t.case t.flip) _ c.hit_forth-hit.result found there hit in
    record { hit = r.hit; place = r.place; end = some_no_none _ _ is }

pub loop-place-preserved : goal.loop-place-preserved
loop-place-preserved c =
    let from = c.loop-place.auto.place in
    let low : c.args.self.now.place ≤ c.loop-place.place = omega (arith, c.place-from.ensures.value) in
    let off : is_some c.hit_forth-hit.result ≡ false = cc in
    seek_on c.args.self.now c.loop-place.self c.hit_forth-hit.new.self c.args.stops.now c.args.watches.now c.loop-place.place c.hit_forth-hit.result c.loop-place.invariant low c.hit_forth-hit.ensures.place c.hit_forth-hit.ensures.hit off

pub returns : goal.returns
returns c =
    let t = c.args.self.now in
    let low = c.place-from.ensures.within in
    let end : c.loop-place.place ≡ last_of t.case t.flip = omega (arith, c.last-last.ensures.value, c.place-from.ensures.value) in
    let h = c.loop-place.invariant in
    let none = h.none in
    let r = reached_none t c.loop-place.self (forth t c.args.stops.now c.args.watches.now) (next_hit t.case t.flip c.args.stops.now c.args.watches.now t.place) (last_of t.case t.flip) c.loop-place.place (rw end at none) end h.here in
    record { hit = r.hit; place = r.place; end = ap (λ (x : TimelineData). x.place) h.here ∙ end }
