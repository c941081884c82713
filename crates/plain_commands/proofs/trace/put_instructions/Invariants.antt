use Rattle.std.proofs.Common.{◌≡◌}
use Rattle.report.specs.Buffer.{Moved}
use Rattle.plain_commands.specs.Trace.{instruction_lines}
use Rattle.plain_commands.proofs.Traced.{Walks}
use Rattle.plain_commands.proofs.trace.put_instructions.Given as goal

abbrev pub invariant-loop-cycle : goal.invariant-loop-cycle
invariant-loop-cycle g l = record {
  walks : Walks l.fn.machine.case l.cycle l.machine;
  faults : g.O.Sink.faults l.out ≡ g.O.Sink.faults l.fn.out;
  so_far : g.O.Sink.tells → Moved (g.O.Sink.taken l.fn.out) l.fn.waiting.items (g.O.Sink.taken l.out) l.waiting.items (instruction_lines l.fn.machine.case l.cycle);
}
