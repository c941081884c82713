use Rattle.std.proofs.Common.{◌≡◌, ℕ, ◌+◌, ◌*◌, ◌<◌, ◌≤◌, length}
use Rattle.report.specs.Symbols.{owner_line}
use Rattle.report.specs.SymbolTables.{AreLines}
use Rattle.report.proofs.symbol_runs.lines_from.Given as goal

abbrev pub invariant-loop-i : goal.invariant-loop-i
invariant-loop-i l = record {
  run : (x : ℕ) → l.base + l.step * l.i ≤ x → x < l.run.end → l.run.line ≡ owner_line l.function l.symbols x;
  long : length l.lines.items ≡ l.i;
  each : AreLines l.function l.symbols l.base l.step l.lines.items;
}
