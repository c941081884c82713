use Rattle.std.proofs.Common.{true, arith}
use Rattle.std.specs.Prelude.{slice_index}
use Rattle.std.proofs.lemmas.Grind.{common_steps}
use Rattle.report.specs.Symbols.{owner_line}
use Rattle.report.proofs.SymbolTables.{each_more}
use Rattle.report.proofs.symbol_tables.function_lines.Goals as goal

pub loop-pc-preserved : goal.loop-pc-preserved
loop-pc-preserved c = record {
  long = grind (arith, common_steps);
  each = each_more (λ t. owner_line true c.args.symbols.now (slice_index c.args.pcs.now t)) c.loop-pc.lines.items c.push.new.self.items c.line_at.result c.loop-pc.pc-index
      c.loop-pc.invariant.long c.in_ok-push.ensures.items c.line_at.ensures c.loop-pc.invariant.each;
}

pub returns : goal.returns
returns c = record { as_many = omega arith; each = λ t low. c.loop-pc.invariant.each t (omega arith) }
