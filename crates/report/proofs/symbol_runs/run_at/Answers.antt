use Rattle.std.proofs.Common.{◌∙◌}
use Rattle.report.proofs.SymbolRuns.{same_line}
use Rattle.report.proofs.symbol_runs.run_at.Goals as goal

pub returns-else-at-before-clause-run : goal.returns-else-at-before-clause-run
returns-else-at-before-clause-run c = λ x low high.
    c.line_of.ensures ∙ same_line c.args.function c.args.symbols.now c.args.at c.next_edge.result x c.next_edge.ensures low high
