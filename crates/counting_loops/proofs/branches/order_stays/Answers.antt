use Rattle.std.proofs.Common.{◌<◌, ◌≤◌, ◌^◌, rules, arith}
use Rattle.std.proofs.lemmas.Bool.Decides.{Decides-ltb, nat_tests}
use Rattle.counting_loops.proofs.Orders.{moved_first, below_stays, above_stays}
use Rattle.counting_loops.proofs.branches.order_stays.Goals as goal

pub returns-then-low-high : goal.returns-then-low-high
returns-then-low-high c = λ below i x y low f g.
    let p : c.args.a.first < 2 ^ 32 = search rules in
    let q : c.args.b.first < 2 ^ 32 = search rules in
    below_stays c.in-Some-Some.low c.in-Some-Some.high x y c.args.a.first c.args.b.first ((Decides-ltb _ _).0 below)
    (c.in-Some-Some.ensures i x low f) (c.in-Some-Some.ensures 0 c.args.a.first (omega arith) (moved_first c.args.a.pace c.args.a.first p))
    (c.in-Some-Some.ensures' i y low g) (c.in-Some-Some.ensures' 0 c.args.b.first (omega arith) (moved_first c.args.b.pace c.args.b.first q))

pub returns-else-low-high : goal.returns-else-low-high
returns-else-low-high c = λ above i x y low f g.
    let le : c.in-Some-Some.high.most ≤ c.in-Some-Some.low.least = grind (arith, nat_tests) in
    let p : c.args.a.first < 2 ^ 32 = search rules in
    let q : c.args.b.first < 2 ^ 32 = search rules in
    above_stays c.in-Some-Some.low c.in-Some-Some.high x y c.args.a.first c.args.b.first le
    (c.in-Some-Some.ensures i x low f) (c.in-Some-Some.ensures 0 c.args.a.first (omega arith) (moved_first c.args.a.pace c.args.a.first p))
    (c.in-Some-Some.ensures' i y low g) (c.in-Some-Some.ensures' 0 c.args.b.first (omega arith) (moved_first c.args.b.pace c.args.b.first q))
