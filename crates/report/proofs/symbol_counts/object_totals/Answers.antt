use Rattle.std.proofs.Common.{◌≡◌, ◌+◌, ◌<◌, length, true, refl, sym, ap, ◌∙◌, arith}
use Rattle.fs_model.specs.AccessLog.{log}
use Rattle.fs_model.specs.Job.{jobs_in}
use Rattle.fs_model.specs.Map.{MapData}
use Rattle.site_counts.specs.Boards.{on_board}
use Rattle.site_counts.specs.Lines.{LineTableData, line_in}
use Rattle.report.proofs.SymbolCounts.{all_said, back, cell_table, objects_counted, within_sites}
use Rattle.report.proofs.symbol_counts.object_totals.Goals as goal

pub add_dead-requires-clause-within : goal.add_dead-requires-clause-within
unfolding log
add_dead-requires-clause-within c = λ k low.
    let table : LineTableData = record { lines = c.deref.result.now; last = length c.args.symbols.now + 1; by_cell = true } in
    let totals = c.deref_mut-3.ensures.value ∙ back c.counts_by.new.totals _ c.in_ok-totals.totals.len (omega (arith, c.counts_by.ensures.count)) in
    let bits = c.deref-2.ensures.value ∙ back c.bits_by.new.sums _ c.in_ok-bits.bits.len (omega (arith, c.bits_by.ensures.count)) in
    let ram : length c.args.case.now.ram ≡ c.ram_size.result = sym (c.ram_size.ensures ∙ ap (λ (m : MapData). m.ram_size) c.map-map.ensures) in
    let here : k < length c.args.symbols.now + 2 = omega (arith, ap length totals, c.counts_by.ensures.count) in
    within_sites c.args.case.now (line_in table) k c.args.list.now c.deref_mut-3.result.now c.counts_by.new.totals c.deref-2.result.now c.bits_by.new.sums c.args.instructions totals bits c.requires.instructions c.requires.list
    (c.counts_by.ensures.sum k (omega arith)) (c.bits_by.ensures.whole (log c.args.case.now) ram (sym c.pc_cell.ensures) k (omega arith))

pub returns : goal.returns
unfolding log
returns c =
    let table : LineTableData = record { lines = c.deref.result.now; last = length c.args.symbols.now + 1; by_cell = true } in
    let totals = c.deref_mut-3.ensures.value ∙ back c.counts_by.new.totals _ c.in_ok-totals.totals.len (omega (arith, c.counts_by.ensures.count)) in
    let bits = c.deref-2.ensures.value ∙ back c.bits_by.new.sums _ c.in_ok-bits.bits.len (omega (arith, c.bits_by.ensures.count)) in
    let ram : length c.args.case.now.ram ≡ c.ram_size.result = sym (c.ram_size.ensures ∙ ap (λ (m : MapData). m.ram_size) c.map-map.ensures) in
    rw (back c.add_dead.new.totals _ c.in_ok-totals.totals.len (omega (arith, c.add_dead.ensures.count, ap length totals, c.counts_by.ensures.count)))
    (objects_counted c.args.case.now c.args.board.now c.args.symbols.now (line_in table) c.args.list.now c.deref_mut-3.result.now c.counts_by.new.totals c.deref-2.result.now c.bits_by.new.sums c.add_dead.new.totals c.args.instructions totals bits c.requires.instructions c.requires.list
    (cell_table c.args.case.now c.args.symbols.now c.deref.result.now (length c.args.symbols.now + 1) (rw c.deref.ensures.value c.in_ok-lines.ensures) refl)
    (omega (arith, c.counts_by.ensures.count)) c.add_dead.ensures.count
    (λ k low. c.counts_by.ensures.sum k (omega arith))
    (λ k low. c.bits_by.ensures.whole (log c.args.case.now) ram (sym c.pc_cell.ensures) k (omega arith))
    (λ k low. c.counts_by.ensures.counts (log c.args.case.now) (on_board (jobs_in c.args.case.now) c.args.board.now) c.requires.list (all_said c.args.case.now c.args.list.now c.args.board.now c.requires.list) k (omega arith))
    c.add_dead.ensures.counts)
