use Rattle.std.proofs.Common.{◌≡◌, drop}
use Rattle.fs_outside.specs.DiskPlans.{fail_named}
use Rattle.fs_outside.proofs.memory.disk_fails.find.Given as goal

abbrev pub invariant-loop-fail : goal.invariant-loop-fail
invariant-loop-fail l = fail_named (drop l.fail-index l.fails) l.call l.number ≡ fail_named l.fails l.call l.number
