use Rattle.std.proofs.Common.{◌<◌, ◌∙◌, [], length, sym, arith}
use Rattle.std.proofs.lemmas.List.{get_or_read}
use Rattle.access_log.proofs.Scan.{found_here, go_further}
use Rattle.access_log.proofs.logs.touch_soon.Goals as goal

pub returns-in-Some : goal.returns-in-Some
returns-in-Some c = λ ram pc.
    let list = c.index-touches-cycle.result in
    let early : c.loop-cycle.cycle < length c.args.touches.now = omega (arith, c.loop-cycle-test.true) in
    c.loop-cycle.invariant ram pc
    ∙ sym (found_here c.args.touches.now ram pc c.args.cell c.loop-cycle.cycle c.in-Some.reads list early (sym (get_or_read c.args.touches.now c.loop-cycle.cycle list early c.index-touches-cycle.is [])) c.in-Some.ensures)

pub loop-cycle-preserved : goal.loop-cycle-preserved
loop-cycle-preserved c = λ ram pc.
    let list = c.index-touches-cycle.result in
    let early : c.loop-cycle.cycle < length c.args.touches.now = omega (arith, c.loop-cycle-test.true) in
    c.loop-cycle.invariant ram pc
    ∙ go_further c.args.touches.now ram pc c.args.cell c.loop-cycle.cycle list early (sym (get_or_read c.args.touches.now c.loop-cycle.cycle list early c.index-touches-cycle.is [])) c.in-None.ensures
