use Rattle.std.proofs.Common.{◌+◌, ◌*◌, length}
use Rattle.fan_out.proofs.threads.+starting.Given as goal

abbrev pub decreases-start_from : goal.decreases-start_from
decreases-start_from g l = 4 * length l.all.now

abbrev pub decreases-start_first : goal.decreases-start_first
decreases-start_first g l = 4 * length l.others.now + 2

abbrev pub decreases-start_first-start : goal.decreases-start_first-start
decreases-start_first-start g l = 4 * length l.others.now + 1
