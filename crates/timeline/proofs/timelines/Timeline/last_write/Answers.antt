use Rattle.std.proofs.Common.{◌≡◌, ◌+◌, ◌∙◌, ap, arith, refl}
use Rattle.timeline.specs.Places.{state_at, last_from}
use Rattle.timeline.specs.Timelines.{TimelineData}
use Rattle.timeline.specs.Writes.{writes_next}
use Rattle.timeline.proofs.Searches.{last_more, last_within}
use Rattle.timeline.proofs.StopLemmas.{same_first, same_last, same_moved, same_there}
use Rattle.timeline.proofs.timelines.Timeline.last_write.Goals as goal

pub go_to-requires : goal.go_to-requires
go_to-requires c =
    let h = c.loop-place.invariant in
    let last = same_last c.args.self.now c.loop-place.self h.same in
    omega (arith, last, c.place-end.ensures.within, c.place-end.ensures.value)

pub loop-place-init : goal.loop-place-init
unfolding last_from
loop-place-init c = record { same = same_first c.args.self.now; found = refl }

pub loop-place-preserved : goal.loop-place-preserved
loop-place-preserved c =
    let t = c.args.self.now in
    let h = c.loop-place.invariant in
    let place = c.loop-place.place in
    let k = c.args.register in
    let there = same_there t c.loop-place.self c.go_to.new.self place h.same c.go_to.ensures in
    let is = c.writes_next.ensures ∙ ap (λ (x : TimelineData). writes_next x.case (state_at x.case x.flip x.place) k) there in
    record {
      same = same_moved t c.loop-place.self c.go_to.new.self place h.same c.go_to.ensures;
      found = last_more (λ n. writes_next t.case (state_at t.case t.flip n) k) 0 place place c.writes_next.result c.loop-place.found c.latest-found.result (omega arith) is c.latest-found.ensures h.found;
    }

pub returns-clause-early : goal.returns-clause-early
returns-clause-early c =
    let t = c.args.self.now in
    let h = c.loop-place.invariant in
    let end : c.loop-place.place ≡ t.place = omega (arith, c.place-end.ensures.value, c.loop-place-test.false) in
    let all : 0 + c.loop-place.place ≡ t.place = omega (arith, end) in
    let within = last_within (λ n. writes_next t.case (state_at t.case t.flip n) c.args.register) 0 c.loop-place.place in
    rw h.found (rw all at within)
