use Rattle.std.proofs.Common.{◌≡◌, ℕ, ◌<◌, length, true}
use Rattle.std.specs.Prelude.{slice_index}
use Rattle.report.specs.Symbols.{owner_line}
use Rattle.report.proofs.symbol_tables.function_lines.Given as goal

abbrev pub invariant-loop-pc : goal.invariant-loop-pc
invariant-loop-pc l = record {
  long : length l.lines.items ≡ l.pc-index;
  each : (t : ℕ) → t < length l.lines.items → slice_index l.lines.items t ≡ owner_line true l.symbols (slice_index l.pcs t);
}
