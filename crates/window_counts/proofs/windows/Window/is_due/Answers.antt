use Rattle.std.proofs.Common.{◌<◌, arith}
use Rattle.std.proofs.lemmas.Bool.Decides.{nat_tests}
use Rattle.window_counts.proofs.Due.{due_weighs, weighs_due}
use Rattle.window_counts.proofs.windows.Window.is_due.Goals as goal

pub returns : goal.returns
returns c = (
  λ yes'. weighs_due c.args.self.now c.args.job.now (let some : 0 < c.weight_inside.result = grind (arith, nat_tests) in omega (arith, c.weight_inside.ensures)),
  λ due. let some = due_weighs c.args.self.now c.args.job.now due in let all : 0 < c.weight_inside.result = omega (arith, c.weight_inside.ensures) in grind (arith, nat_tests),
)
