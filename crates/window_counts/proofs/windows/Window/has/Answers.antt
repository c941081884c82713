use Rattle.std.proofs.Common.{ap, ◌∙◌}
use Rattle.std.specs.Prelude.{nat_lt, ℕ}
use Rattle.window_counts.proofs.Tables.{one_cycle}
use Rattle.window_counts.proofs.windows.Window.has.Goals as goal

pub returns : goal.returns
returns c = ap (λ (n : ℕ). nat_lt 0 n) c.inside.ensures ∙ one_cycle c.args.self.now c.args.cycle
