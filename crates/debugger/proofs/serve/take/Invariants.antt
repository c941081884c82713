use Rattle.std.proofs.Common.{◌≡◌, take}
use Rattle.debugger.specs.Talk.{Served}
use Rattle.debugger.proofs.serve.take.Given as goal

abbrev pub invariant-loop-byte : goal.invariant-loop-byte
invariant-loop-byte g l = record {
  faults : g.O.Sink.faults l.out ≡ g.O.Sink.faults l.fn.out;
  so_far : g.O.Sink.tells → Served l.fn.talk l.talk (take l.byte-index l.bytes) (g.O.Sink.taken l.fn.out) (g.O.Sink.taken l.out);
}
