use Rattle.std.proofs.Common.{◌≡◌}
use Rattle.debugger.proofs.Serving.{TalksTo}
use Rattle.debugger.proofs.serve.serve.Given as goal

abbrev pub invariant-loop-read : goal.invariant-loop-read
invariant-loop-read g l = record {
  reads : g.S.Source.faults l.input ≡ g.S.Source.faults l.fn.input;
  writes : g.O.Sink.faults l.out ≡ g.O.Sink.faults l.fn.out;
  so_far : g.S.Source.tells → g.O.Sink.tells
      → TalksTo l.fn.talk l.talk (g.S.Source.left l.fn.input) (g.S.Source.left l.input) (g.O.Sink.taken l.fn.out) (g.O.Sink.taken l.out) l._read;
}
