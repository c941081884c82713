use Rattle.std.proofs.Common.{arith, rules}
use Rattle.fs_outside.proofs.Writes.{each_fails, each_whole}
use Rattle.phases.specs.Status.{usage_line}
use Rattle.phases.proofs.tell.write_usage.Goals as goal

pub returns-in_err-write_usage_line-clause-bytes : goal.returns-in_err-write_usage_line-clause-bytes
returns-in_err-write_usage_line-clause-bytes g c =
    rw c.all_commands-commands.ensures at
    (each_fails usage_line g.E.Sink.tells _ _ _ c.all_commands-commands.result.now c.loop-command.command-index _ _
    c.from_residual.ensures.0 (omega arith) c.loop-command.invariant.so_far c.in_err-write_usage_line.ensures.bytes)

pub loop-command-preserved : goal.loop-command-preserved
loop-command-preserved g c = record {
  whole = c.loop-command.invariant.whole;
  faults = search rules;
  so_far = λ told. each_whole usage_line _ _ _ c.all_commands-commands.result.now c.loop-command.command-index _ (omega arith)
      (c.loop-command.invariant.so_far told) (c.in_ok-write_usage_line.ensures.bytes told);
}
