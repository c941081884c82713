use Rattle.std.proofs.Common.{ap}
use Rattle.std.proofs.lemmas.List.{get_or_default}
use Rattle.elf_symbols.specs.declared.tables.Symbol.{Symbol}
use Rattle.elf_symbols.specs.Owners.{no_symbol}
use Rattle.report.proofs.SymbolRuns.{edge_more}
use Rattle.report.proofs.symbol_runs.next_edge.Goals as goal

pub loop-i-preserved : goal.loop-i-preserved
loop-i-preserved c =
    let begins = get_or_default c.args.symbols.now c.loop-i.i c.index-symbols-i.result no_symbol c.loop-i-test.true in
    let ends = get_or_default c.args.symbols.now c.loop-i.i c.index-symbols-i-in-loop-i.result no_symbol c.loop-i-test.true in
    edge_more c.args.symbols.now c.loop-i.i c.args.at c.loop-i.edge c.nearer.result c.nearer-edge.result _ _ (ap (λ (s : Symbol). s.value) begins) (ap (λ (s : Symbol). s.size) ends) c.loop-i.invariant
    c.nearer.ensures.behind c.nearer.ensures.near c.nearer.ensures.place c.nearer-edge.ensures.behind c.nearer-edge.ensures.near c.nearer-edge.ensures.place
