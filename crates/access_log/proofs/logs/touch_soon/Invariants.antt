use Rattle.std.proofs.Common.{◌≡◌, ℕ, Bool}
use Rattle.fs_model.specs.AccessLog.{next_touch}
use Rattle.fs_model.specs.Job.{log_of}
use Rattle.access_log.proofs.logs.touch_soon.Given as goal

abbrev pub invariant-loop-cycle : goal.invariant-loop-cycle
invariant-loop-cycle l = (ram : ℕ) (pc : Bool) → next_touch (log_of l.touches ram pc) l.cell l.from ≡ next_touch (log_of l.touches ram pc) l.cell l.cycle
