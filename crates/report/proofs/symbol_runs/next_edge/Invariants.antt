use Rattle.report.specs.SymbolTables.{IsEdge}
use Rattle.report.proofs.symbol_runs.next_edge.Given as goal

abbrev pub invariant-loop-i : goal.invariant-loop-i
invariant-loop-i l = IsEdge l.symbols l.i l.at l.edge
