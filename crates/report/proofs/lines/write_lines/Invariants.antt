use Rattle.std.proofs.Common.{◌≡◌, ◌++◌, take}
use Rattle.std.specs.List.{flat_map}
use Rattle.report.specs.Text.{line_text}
use Rattle.report.proofs.lines.write_lines.Given as goal

abbrev pub invariant-loop-word : goal.invariant-loop-word
invariant-loop-word g l = record {
  faults : g.O.Sink.faults l.out ≡ g.O.Sink.faults l.fn.out;
  so_far : g.O.Sink.tells → g.O.Sink.taken l.out ≡ g.O.Sink.taken l.fn.out ++ flat_map (λ e. line_text e.0.now e.1) (take l.word-index l.lines);
}
