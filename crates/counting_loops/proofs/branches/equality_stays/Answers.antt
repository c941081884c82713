use Rattle.std.proofs.Common.{◌<◌, ◌^◌, rules, arith}
use Rattle.std.proofs.lemmas.Bool.Decides.{Decides-ltb}
use Rattle.fs_model.specs.Word.{minus}
use Rattle.counting_loops.proofs.Orders.{moved_first, moved_low, equal_same, equal_never}
use Rattle.counting_loops.proofs.branches.equality_stays.Goals as goal

pub returns-then-is_fixed : goal.returns-then-is_fixed
returns-then-is_fixed c = λ _ i x y low f g.
    let p : c.args.a.first < 2 ^ 32 = search rules in
    let q : c.args.b.first < 2 ^ 32 = search rules in
    let a = moved_low c.args.a.pace _ i c.args.a.first x c.in-By-By.is-0 f in
    let b = moved_low c.args.b.pace _ i c.args.b.first y c.in-By-By.is-1 g in
    equal_same x y c.args.a.first c.args.b.first a b p q (c.is_fixed.ensures c.if-is_fixed.true i (minus x y) (c.difference.ensures i c.args.a.first c.args.b.first x y q f g))

pub returns-in-Some : goal.returns-in-Some
returns-in-Some c = λ some i x y low f g.
    let p : c.args.a.first < 2 ^ 32 = search rules in
    let q : c.args.b.first < 2 ^ 32 = search rules in
    let a = moved_low c.args.a.pace _ i c.args.a.first x c.in-By-By.is-0 f in
    let b = moved_low c.args.b.pace _ i c.args.b.first y c.in-By-By.is-1 g in
    let least = (Decides-ltb 0 c.in-Some.range.least).0 some in
    let here = c.in-Some.ensures i (minus x y) low (c.difference.ensures i c.args.a.first c.args.b.first x y q f g) in
    let first = c.in-Some.ensures 0 (minus c.args.a.first c.args.b.first) (omega arith) (c.difference.ensures 0 c.args.a.first c.args.b.first c.args.a.first c.args.b.first q (moved_first c.args.a.pace c.args.a.first p) (moved_first c.args.b.pace c.args.b.first q)) in
    equal_never x y c.args.a.first c.args.b.first a b p q (omega (arith, least, here.least)) (omega (arith, least, first.least))
