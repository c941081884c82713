use Rattle.std.proofs.Common.{◌≡◌, ◌+◌, ◌-◌, ◌∙◌, ap, arith, is_some, sym}
use Rattle.std.proofs.Common.{Option}
use Rattle.timeline.specs.declared.watches.Hit.{Hit}
use Rattle.timeline.proofs.Searches.{last_more, last_within}
use Rattle.timeline.proofs.StopLemmas.{back, same_first, same_hit, same_moved, same_there, stop_none}
use Rattle.timeline.proofs.timelines.Timeline.last_hit.Goals as goal

pub loop-place-init : goal.loop-place-init
loop-place-init c = record { same = same_first c.args.self.now; found = sym (stop_none c.args.stops.now c.args.watches.now c.args.self.now c.args.begin c.args.begin (omega arith)) }

pub loop-place-preserved : goal.loop-place-preserved
loop-place-preserved c =
    let t = c.args.self.now in
    let h = c.loop-place.invariant in
    let place = c.loop-place.place in
    let there = same_there t c.loop-place.self c.go_to.new.self place h.same c.go_to.ensures in
    let hit = same_hit c.args.stops.now c.args.watches.now t c.go_to.new.self place c.hit_back-hit.result there c.hit_back-hit.ensures in
    let told : c.is_some.result ≡ is_some c.hit_back-hit.result = cc in
    let is = told ∙ ap (λ (o : Option Hit). is_some o) hit in
    let more : place + 1 - c.args.begin ≡ place - c.args.begin + 1 = omega arith in
    record {
      same = same_moved t c.loop-place.self c.go_to.new.self place h.same c.go_to.ensures;
      found = rw more (last_more (λ n. is_some (back c.args.stops.now c.args.watches.now t n)) c.args.begin (place - c.args.begin) place c.is_some.result c.loop-place.found c.latest-found.result (omega arith) is c.latest-found.ensures h.found);
    }

pub returns-clause-early : goal.returns-clause-early
returns-clause-early c =
    let h = c.loop-place.invariant in
    let end : c.loop-place.place ≡ c.args.end = omega arith in
    let found = h.found in
    let all : c.args.begin + (c.args.end - c.args.begin) ≡ c.args.end = omega arith in
    let within = last_within (λ n. is_some (back c.args.stops.now c.args.watches.now c.args.self.now n)) c.args.begin (c.args.end - c.args.begin) in
    let is = rw end at found in
    rw is (rw all at within)
