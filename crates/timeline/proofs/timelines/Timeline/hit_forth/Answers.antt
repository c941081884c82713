use Rattle.std.proofs.Common.{◌≡◌, None, arith, length, sym}
use Rattle.std.proofs.lemmas.Bool.Decides.{nat_tests}
use Rattle.timeline.proofs.StopLemmas.{forth_told, touched_none}
use Rattle.timeline.proofs.timelines.Timeline.hit_forth.Goals as goal

pub returns-then-is_empty-clause-hit : goal.returns-then-is_empty-clause-hit
returns-then-is_empty-clause-hit c =
    let t = c.args.self.now in
    let e : length c.args.watches.now ≡ 0 = grind (arith, nat_tests) in
    forth_told t c.go_to.new.self c.args.stops.now c.args.watches.now c.args.place None c.hit_by.result c.requires.next c.go_to.ensures (sym (touched_none t.case t.flip c.args.watches.now t.place e)) c.hit_by.ensures

pub returns-clause-hit : goal.returns-clause-hit
returns-clause-hit c = forth_told c.args.self.now c.go_to-2.new.self c.args.stops.now c.args.watches.now c.args.place c.touched-touched.result c.hit_by-2.result c.requires.next c.go_to-2.ensures c.touched-touched.ensures c.hit_by-2.ensures
