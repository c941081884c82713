use Rattle.counting_loops.proofs.Wrapping.{moved_sum}
use Rattle.counting_loops.proofs.paces.sum.Goals as goal

pub returns-in-By-By : goal.returns-in-By-By
returns-in-By-By c = λ i p q x y. moved_sum c.args.a c.args.b c.in-By-By.d c.in-By-By.e i p q x y c.in-By-By.is-0 c.in-By-By.is-1
