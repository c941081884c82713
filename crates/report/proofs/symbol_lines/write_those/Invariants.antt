use Rattle.std.proofs.Common.{◌≡◌, ◌++◌, length, take}
use Rattle.std.specs.List.{flat_map, range_with_len}
use Rattle.report.specs.SymbolLines.{counts_in, one_text}
use Rattle.report.proofs.symbol_lines.write_those.Given as goal

abbrev pub invariant-loop-k : goal.invariant-loop-k
invariant-loop-k g l = record {
  faults : g.O.Sink.faults l.out ≡ g.O.Sink.faults l.fn.out;
  so_far : g.O.Sink.tells → g.O.Sink.taken l.out ≡ g.O.Sink.taken l.fn.out ++ flat_map (one_text l.function l.word l.symbols (counts_in l.totals)) (take l.k (range_with_len 0 (length l.symbols)));
}
