use Rattle.std.proofs.Common.{◌+◌, ◌-◌, arith, refl, sym, ◌∙◌}
use Rattle.timeline.specs.Places.{last_of}
use Rattle.timeline.proofs.ApartLemmas.{at_apart, first_none, part_first, part_found, part_on, stands_at}
use Rattle.timeline.proofs.StopLemmas.{same_moved, same_there}
use Rattle.timeline.proofs.timelines.Timeline.first_apart.Goals as goal

pub returns-then-from-last-clause-found : goal.returns-then-from-last-clause-found
returns-then-from-last-clause-found c =
    let t = c.args.self.now in
    sym (first_none t.case t.flip c.args.other.now.flip c.args.from (last_of t.case t.flip + 1 - c.args.from) (omega (arith, c.last-last.ensures.value)))

pub loop-place-init : goal.loop-place-init
loop-place-init c = part_first c.args.self.now c.args.other.now c.args.from c.args.from refl

pub returns-then-is_apart-clause-found : goal.returns-then-is_apart-clause-found
returns-then-is_apart-clause-found c =
    let t = c.args.self.now in
    let u = c.args.other.now in
    let h = c.loop-place.invariant in
    let here = same_there t c.loop-place.self c.go_to.new.self c.loop-place.place h.same c.go_to.ensures in
    let stands = same_there u c.loop-place.other c.go_to-in-loop-place.new.self c.min.result h.other c.go_to-in-loop-place.ensures in
    let there = stands_at u c.go_to-in-loop-place.new.self c.loop-place.place c.min.result c.last-other_last.result stands c.min.ensures c.last-other_last.ensures.value in
    let at = at_apart t u c.go_to.new.self c.go_to-in-loop-place.new.self c.loop-place.place c.is_apart.result c.requires here there c.is_apart.ensures in
    sym (part_found t u c.args.from c.loop-place.place (last_of t.case t.flip) (omega arith) (omega (arith, c.last-last.ensures.value)) h.none (sym at ∙ c.if-is_apart.true))

pub loop-place-preserved : goal.loop-place-preserved
loop-place-preserved c =
    let t = c.args.self.now in
    let u = c.args.other.now in
    let h = c.loop-place.invariant in
    let here = same_there t c.loop-place.self c.go_to.new.self c.loop-place.place h.same c.go_to.ensures in
    let stands = same_there u c.loop-place.other c.go_to-in-loop-place.new.self c.min.result h.other c.go_to-in-loop-place.ensures in
    let there = stands_at u c.go_to-in-loop-place.new.self c.loop-place.place c.min.result c.last-other_last.result stands c.min.ensures c.last-other_last.ensures.value in
    let at = at_apart t u c.go_to.new.self c.go_to-in-loop-place.new.self c.loop-place.place c.is_apart.result c.requires here there c.is_apart.ensures in
    record {
      same = same_moved t c.loop-place.self c.go_to.new.self c.loop-place.place h.same c.go_to.ensures;
      other = same_moved u c.loop-place.other c.go_to-in-loop-place.new.self c.min.result h.other c.go_to-in-loop-place.ensures;
      none = part_on t u c.args.from c.loop-place.place (last_of t.case t.flip) (omega arith) (omega (arith, c.last-last.ensures.value)) h.none (sym at ∙ c.if-is_apart.false);
    }
