use Rattle.std.proofs.Common.{◌≡◌, ◌∙◌, Option, ap, arith, length, sym}
use Rattle.std.proofs.lemmas.Bool.Decides.{nat_tests}
use Rattle.timeline.specs.declared.watches.Watch.{Watch}
use Rattle.timeline.specs.Timelines.{stops_at}
use Rattle.timeline.specs.Watches.{hit_by}
use Rattle.timeline.proofs.StopLemmas.{touched_none}
use Rattle.timeline.proofs.timelines.Timeline.hit_back.Goals as goal

pub returns-then-is_empty : goal.returns-then-is_empty
returns-then-is_empty c =
    let t = c.args.self.now in
    let e : length c.args.watches.now ≡ 0 = grind (arith, nat_tests) in
    c.hit_by.ensures ∙ ap (λ (o : Option Watch). hit_by o (stops_at t.case t.flip c.args.stops.now t.place)) (sym (touched_none t.case t.flip c.args.watches.now t.place e))
