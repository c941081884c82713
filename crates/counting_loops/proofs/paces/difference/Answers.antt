use Rattle.std.proofs.Common.{◌<◌, ◌^◌, rules}
use Rattle.counting_loops.proofs.Wrapping.{moved_difference}
use Rattle.counting_loops.proofs.paces.difference.Goals as goal

pub returns-in-By-By : goal.returns-in-By-By
returns-in-By-By c =
    let low : c.in-By-By.e < 2 ^ 32 = search rules in
    λ i p q x y. moved_difference c.args.a c.args.b c.in-By-By.d c.in-By-By.e i p q x y c.in-By-By.is-0 c.in-By-By.is-1 low
