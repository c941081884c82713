use Rattle.std.proofs.Common.{◌≡◌, take}
use Rattle.report.specs.Buffer.{Moved}
use Rattle.replay.specs.Text.{replay_text}
use Rattle.replay.proofs.sites.put_sites.Given as goal

abbrev pub invariant-loop-site : goal.invariant-loop-site
invariant-loop-site g l = record {
  machine : l.machine.case ≡ l.case;
  other : l.other.case ≡ l.case;
  faults : g.O.Sink.faults l.out ≡ g.O.Sink.faults l.fn.out;
  so_far : g.O.Sink.tells → Moved (g.O.Sink.taken l.fn.out) l.fn.waiting.items (g.O.Sink.taken l.out) l.waiting.items (replay_text l.case l.view (take l.site-index l.sites));
}
