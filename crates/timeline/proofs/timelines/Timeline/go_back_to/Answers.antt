use Rattle.std.proofs.Common.{◌<◌, ◌∙◌, sym, ap, arith, refl}
use Rattle.timeline.specs.Timelines.{previous_hit}
use Rattle.timeline.proofs.StopLemmas.{back, none_previous, reached_none, reached_some, same_first, same_hit, same_there, same_on, same_last, stop_late, stop_early, stop_none}
use Rattle.timeline.proofs.timelines.Timeline.go_back_to.Goals as goal

pub go_to-requires : goal.go_to-requires
go_to-requires c = omega (arith, c.place-end.ensures.within, c.place-end.ensures.value, c.requires)

pub returns-then-are_none : goal.returns-then-are_none
returns-then-are_none c =
    let t = c.args.self.now in
    let stops = c.args.stops.now in
    let watches = c.args.watches.now in
    let none = none_previous t stops watches c.args.floor (c.are_none.ensures.stops c.if-are_none.true) (c.are_none.ensures.watches c.if-are_none.true) in
    let r = reached_none t c.go_to.new.self (back stops watches t) (previous_hit t.case t.flip stops watches c.args.floor t.place) c.args.floor c.args.floor none refl c.go_to.ensures in
    record { hit = r.hit; place = r.place }

pub loop-end-init : goal.loop-end-init
loop-end-init c =
    let is = c.place-end.ensures.value in
    record { same = same_first c.args.self.now; low = omega (arith, is, c.requires); high = omega (arith, is); rest = ap (λ n. previous_hit c.args.self.now.case c.args.self.now.flip c.args.stops.now c.args.watches.now c.args.floor n) (sym is) }

pub last_hit-requires : goal.last_hit-requires
last_hit-requires c =
    let h = c.loop-end.invariant in
    let last = same_last c.args.self.now c.loop-end.self h.same in
    let high = h.high in
    record { order = omega (arith, c.block_begin-begin.ensures.high); within = omega (arith, last, high, c.place-end.ensures.within, c.place-end.ensures.value) }

pub go_to-requires-in-Some : goal.go_to-requires-in-Some
go_to-requires-in-Some c =
    let h = c.loop-end.invariant in
    let moved = same_on c.args.self.now c.loop-end.self c.last_hit.new.self h.same c.last_hit.ensures.same in
    let last = same_last c.args.self.now c.last_hit.new.self moved in
    let early : c.in-Some.place < c.loop-end.end = c.in-Some.ensures.early in
    let high = h.high in
    omega (arith, last, early, high, c.place-end.ensures.within, c.place-end.ensures.value)

pub returns-in-Some : goal.returns-in-Some
returns-in-Some c =
    let t = c.args.self.now in
    let h = c.loop-end.invariant in
    let moved = same_on t c.loop-end.self c.last_hit.new.self h.same c.last_hit.ensures.same in
    let there = same_there t c.last_hit.new.self c.go_to-in-Some.new.self c.in-Some.place moved c.go_to-in-Some.ensures in
    let late = stop_late c.args.stops.now c.args.watches.now t c.loop-end.self c.args.floor c.block_begin-begin.result c.loop-end.end c.in-Some.place h.same c.block_begin-begin.ensures.low (let low = c.block_begin-begin.ensures.high in omega arith) c.in-Some.ensures.found in
    let hit = same_hit c.args.stops.now c.args.watches.now t c.go_to-in-Some.new.self c.in-Some.place c.hit_back.result there c.hit_back.ensures in
    let r = reached_some t c.go_to-in-Some.new.self (back c.args.stops.now c.args.watches.now t) (previous_hit t.case t.flip c.args.stops.now c.args.watches.now c.args.floor t.place) c.args.floor c.in-Some.place c.hit_back.result (h.rest ∙ late) there hit in
    record { hit = r.hit; place = r.place }

pub loop-end-preserved : goal.loop-end-preserved
loop-end-preserved c =
    let t = c.args.self.now in
    let h = c.loop-end.invariant in
    let early = stop_early c.args.stops.now c.args.watches.now t c.loop-end.self c.args.floor c.block_begin-begin.result c.loop-end.end h.same c.block_begin-begin.ensures.low (let low = c.block_begin-begin.ensures.high in omega arith) c.in_default.ensures.found in
    let high = h.high in
    record {
      same = same_on t c.loop-end.self c.last_hit.new.self h.same c.last_hit.ensures.same;
      low = c.block_begin-begin.ensures.low;
      high = let below = c.block_begin-begin.ensures.high in omega arith;
      rest = h.rest ∙ early;
    }

pub go_to-requires-2 : goal.go_to-requires-2
go_to-requires-2 c =
    let h = c.loop-end.invariant in
    let last = same_last c.args.self.now c.loop-end.self h.same in
    omega (arith, last, c.place-end.ensures.within, c.place-end.ensures.value, c.requires)

pub returns : goal.returns
returns c =
    let t = c.args.self.now in
    let h = c.loop-end.invariant in
    let there = same_there t c.loop-end.self c.go_to-2.new.self c.args.floor h.same c.go_to-2.ensures in
    let none = stop_none c.args.stops.now c.args.watches.now t c.args.floor c.loop-end.end c.loop-end-test.false in
    let r = reached_none t c.go_to-2.new.self (back c.args.stops.now c.args.watches.now t) (previous_hit t.case t.flip c.args.stops.now c.args.watches.now c.args.floor t.place) c.args.floor c.args.floor (h.rest ∙ none) refl there in
    record { hit = r.hit; place = r.place }
