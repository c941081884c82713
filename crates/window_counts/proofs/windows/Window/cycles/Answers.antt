use Rattle.std.proofs.Common.{arith}
use Rattle.window_counts.proofs.Tables.{window-length}
use Rattle.window_counts.proofs.windows.Window.cycles.Goals as goal

pub returns : goal.returns
returns c = rw (← c.self.view_is) (omega (arith, window-length c.self.inside.before.items))
