use Rattle.std.proofs.Common.{◌≡◌, ℕ, ◌<◌, ◌∙◌, List, [], length, get_or, sym, arith}
use Rattle.std.proofs.lemmas.List.{get_or_read}
use Rattle.fs_model.specs.declared.events.Touch.{Touch}
use Rattle.access_log.proofs.Scan.{found_here, go_further, past_end}
use Rattle.access_log.proofs.logs.scan_from.Goals as goal

-- what the index gave is what is read there
read_at : (touches : List (List Touch)) (t : ℕ) (list : List Touch) → t < length touches → list ≡ get_or touches t list → get_or touches t [] ≡ list
read_at touches t list early is = sym (get_or_read touches t list early is [])

pub returns-in-Some : goal.returns-in-Some
returns-in-Some c = λ ram pc.
    let list = c.index-touches-cycle.result in
    let early : c.loop-cycle.cycle < length c.args.touches.now = omega (arith, c.loop-cycle-test.true) in
    found_here c.args.touches.now ram pc c.args.cell c.loop-cycle.cycle c.in-Some.reads list early (read_at c.args.touches.now c.loop-cycle.cycle list early c.index-touches-cycle.is) c.in-Some.ensures
    ∙ sym (c.loop-cycle.invariant ram pc)

pub loop-cycle-preserved : goal.loop-cycle-preserved
loop-cycle-preserved c = λ ram pc.
    let list = c.index-touches-cycle.result in
    let early : c.loop-cycle.cycle < length c.args.touches.now = omega (arith, c.loop-cycle-test.true) in
    c.loop-cycle.invariant ram pc
    ∙ go_further c.args.touches.now ram pc c.args.cell c.loop-cycle.cycle list early (read_at c.args.touches.now c.loop-cycle.cycle list early c.index-touches-cycle.is) c.in-None.ensures

pub returns : goal.returns
returns c = λ ram pc. past_end c.args.touches.now ram pc c.args.cell c.loop-cycle.cycle (omega (arith, c.loop-cycle-test.false)) ∙ sym (c.loop-cycle.invariant ram pc)
