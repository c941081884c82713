use Rattle.std.proofs.Common.{◌≡◌, arith, length, sym}
use Rattle.std.proofs.lemmas.Bool.Decides.{nat_tests}
use Rattle.timeline.proofs.StopLemmas.{touched_none}
use Rattle.timeline.proofs.timelines.Timeline.touched.Goals as goal

pub returns-then-is_empty : goal.returns-then-is_empty
returns-then-is_empty c =
    let t = c.args.self.now in
    let e : length c.args.watches.now ≡ 0 = grind (arith, nat_tests) in
    sym (touched_none t.case t.flip c.args.watches.now t.place e)
