use Rattle.std.proofs.Common.{◌≡◌, ◌++◌, take}
use Rattle.std.specs.List.{flat_map}
use Rattle.command_line.specs.Commands.{all_commands}
use Rattle.phases.specs.Status.{usage_line}
use Rattle.phases.proofs.tell.write_usage.Given as goal

abbrev pub invariant-loop-command : goal.invariant-loop-command
invariant-loop-command g l = record {
  whole : l.commands ≡ all_commands;
  faults : g.E.Sink.faults l.err ≡ g.E.Sink.faults l.fn.err;
  so_far : g.E.Sink.tells → g.E.Sink.taken l.err ≡ g.E.Sink.taken l.fn.err ++ flat_map usage_line (take l.command-index l.commands);
}
