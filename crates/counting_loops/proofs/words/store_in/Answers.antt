use Rattle.std.proofs.Common.{◌<◌, ◌^◌, rules, arith}
use Rattle.counting_loops.proofs.Numbers.{after_forget}
use Rattle.counting_loops.proofs.Orders.{moved_first}
use Rattle.counting_loops.proofs.words.store_in.Goals as goal

pub returns-in-Some : goal.returns-in-Some
returns-in-Some c = λ _ i x v w k low at stored within.
    let p : c.args.at.first < 2 ^ 32 = search rules in
    after_forget c.args.case.now c.args.size i c.args.at.first x v w k c.in-Some.range _ _
    (c.in-Some.ensures 0 c.args.at.first (omega arith) (moved_first c.args.at.pace c.args.at.first p)) (c.in-Some.ensures i x low at)
    (rw (c.ram_base.ensures, c.count_of.ensures) at (c.forget.ensures k))
