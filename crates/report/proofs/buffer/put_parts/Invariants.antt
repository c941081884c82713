use Rattle.std.proofs.Common.{◌≡◌, take}
use Rattle.std.specs.List.{flat_map}
use Rattle.fs_outside.specs.Parts.{part_text}
use Rattle.report.specs.Buffer.{Moved}
use Rattle.report.proofs.buffer.put_parts.Given as goal

abbrev pub invariant-loop-part : goal.invariant-loop-part
invariant-loop-part g l = record {
  faults : g.O.Sink.faults l.out ≡ g.O.Sink.faults l.fn.out;
  so_far : g.O.Sink.tells → Moved (g.O.Sink.taken l.fn.out) l.fn.waiting.items (g.O.Sink.taken l.out) l.waiting.items
      (flat_map part_text (take l.part-index l.parts));
}
