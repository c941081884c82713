use Rattle.std.proofs.Common.{ℕ, ◌+◌, ◌*◌, ◌≤◌, mul-le-mul_left, arith}
use Rattle.std.proofs.lemmas.Grind.{common_steps}
use Rattle.report.specs.Symbols.{owner_line}
use Rattle.report.proofs.SymbolTables.{each_more}
use Rattle.report.proofs.symbol_runs.lines_from.Goals as goal

more : (step i : ℕ) → step * i ≤ step * (i + 1)
more step i = mul-le-mul_left step (let h : i ≤ i + 1 = omega arith in h)

pub loop-i-preserved : goal.loop-i-preserved
loop-i-preserved c = record {
  run = λ x low high. c.run_at-run.ensures.run x (omega (arith, more c.args.step c.loop-i.i)) high;
  long = grind (arith, common_steps);
  each = each_more (λ i. owner_line c.args.function c.args.symbols.now (c.args.base + c.args.step * i)) c.loop-i.lines.items c.push.new.self.items c.run_at-run.result.line c.loop-i.i
      c.loop-i.invariant.long c.in_ok-push.ensures.items c.run_at-run.ensures.line c.loop-i.invariant.each;
}
