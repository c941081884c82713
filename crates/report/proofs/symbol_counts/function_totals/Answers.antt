use Rattle.std.proofs.Common.{◌+◌, List, length, drop, cond, false, refl, ap, ◌∙◌, arith}
use Rattle.std.specs.Prelude.{slice_set}
use Rattle.fs_model.specs.declared.outcomes.Outcome.TheVariants.{NoEffect}
use Rattle.fs_model.specs.AccessLog.{log}
use Rattle.fs_model.specs.Job.{jobs_in}
use Rattle.fs_model.specs.Outcome.{TotalsData, same_outcome}
use Rattle.site_counts.specs.Boards.{on_board}
use Rattle.site_counts.specs.Lines.{LineTableData, line_in}
use Rattle.report.proofs.SymbolCounts.{all_said, back, dead_is, function_table, functions_counted}
use Rattle.report.proofs.symbol_counts.function_totals.Goals as goal

pub returns : goal.returns
returns c =
    let table : LineTableData = record { lines = c.deref.result.now; last = length c.args.symbols.now + 1; by_cell = false } in
    let made = back c.counts_by.new.totals (drop (length c.counts_by.new.totals) c.in_ok-totals.totals.items) c.in_ok-totals.totals.len (omega (arith, c.counts_by.ensures.count)) in
    functions_counted c.args.case.now c.args.board.now c.args.symbols.now (line_in table) c.counts_by.new.totals _ c.dead_totals.result
    (function_table c.args.case.now c.args.symbols.now c.args.pcs.now c.deref.result.now (length c.args.symbols.now + 1) c.requires.pcs (rw c.deref.ensures.value c.in_ok-lines.ensures) refl)
    (omega (arith, c.counts_by.ensures.count))
    (λ k low o. c.counts_by.ensures.counts (log c.args.case.now) (on_board (jobs_in c.args.case.now) c.args.board.now) c.requires.list (all_said c.args.case.now c.args.list.now c.args.board.now c.requires.list) k (omega arith) (λ site. false) o)
    (λ o. c.dead_totals.ensures o ∙ ap (λ n. cond (same_outcome NoEffect o) n 0) (dead_is c.args.case.now c.args.list.now c.requires.list))
    (ap (λ (t : List TotalsData). slice_set t (length c.args.symbols.now + 1) c.dead_totals.result) made)
