use Rattle.std.proofs.Common.{◌≡◌, ◌≤◌, ◌++◌, map, take}
use Rattle.report.specs.Symbols.{shown}
use Rattle.report.proofs.SymbolTexts.{ArePlain}
use Rattle.report.proofs.symbol_lines.write_name.Given as goal

abbrev pub invariant-loop-at : goal.invariant-loop-at
invariant-loop-at g l = record {
  order : l.from ≤ l.at;
  plain : ArePlain l.name l.from l.at;
  faults : g.O.Sink.faults l.out ≡ g.O.Sink.faults l.fn.out;
  so_far : g.O.Sink.tells → g.O.Sink.taken l.out ≡ g.O.Sink.taken l.fn.out ++ map shown (take l.from l.name);
}
