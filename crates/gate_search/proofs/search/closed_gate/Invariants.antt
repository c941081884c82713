use Rattle.std.proofs.Common.{◌-◌, ◌≡◌, length, drop}
use Rattle.fs_outside.specs.Past.{content}
use Rattle.keep_format.specs.KeepFile.{batches_from, batches_of}
use Rattle.keep_format.specs.Reading.{gate_of}
use Rattle.gate_search.specs.Windows.{IsOf}
use Rattle.gate_search.proofs.search.closed_gate.Given as goal

abbrev pub invariant-gates : goal.invariant-gates
invariant-gates g l = record {
  window : g.D.Disk.tells → IsOf (content (g.D.Disk.past l.fn.disk)) l.window;
  same : g.D.Disk.tells → g.D.Disk.past l.disk ≡ g.D.Disk.past l.fn.disk;
  faults : g.D.Disk.faults l.disk ≡ g.D.Disk.faults l.fn.disk;
  len : g.D.Disk.tells → l.len ≡ length (content (g.D.Disk.past l.fn.disk));
  gate : g.D.Disk.tells → gate_of (batches_from l.place 0 (drop l.place (content (g.D.Disk.past l.fn.disk)))) ≡ gate_of (batches_of (content (g.D.Disk.past l.fn.disk)) l.fn.first);
}

abbrev pub decreases-gates : goal.decreases-gates
decreases-gates g l = l.len - l.place
