use Rattle.std.proofs.Common.{◌≡◌, ◌-◌, ◌≤◌}
use Rattle.hex.specs.Hex.{encode_lower}
use Rattle.report.specs.Buffer.{Moved}
use Rattle.plain_commands.specs.Sent.{begins, sent_from}
use Rattle.plain_commands.proofs.Sends.{Sends}
use Rattle.plain_commands.proofs.lines.put_bytes.Given as goal

abbrev pub invariant-loop-left : goal.invariant-loop-left
invariant-loop-left g l = record {
  few : l.left ≤ l.steps;
  stands : Sends l.fn.machine.case (begins l.fn.machine.core) (l.steps - l.left) l.machine l.any;
  faults : g.O.Sink.faults l.out ≡ g.O.Sink.faults l.fn.out;
  so_far : g.O.Sink.tells → Moved (g.O.Sink.taken l.fn.out) l.fn.waiting.items (g.O.Sink.taken l.out) l.waiting.items
      (encode_lower (sent_from l.fn.machine.case l.fn.machine.core (l.steps - l.left)));
}

abbrev pub decreases-loop-left : goal.decreases-loop-left
decreases-loop-left g l = l.left
