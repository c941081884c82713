use Rattle.std.proofs.Common.{◌≡◌, List, ℕ, ◌++◌, length, ap, subst, ◌∙◌}
use Rattle.fs_outside.specs.Writing.{TookPart}
use Rattle.fs_outside.proofs.Writes.{part_after, part_before, whole_after, writes_part}
use Rattle.fs_model.specs.Case.{CaseData}
use Rattle.golden_trace.specs.Goldens.{GoldenData}
use Rattle.report.specs.Symbols.{symbols_text}
use Rattle.kept_commands.proofs.BySymbols.{board_written, golden_pcs}
use Rattle.kept_commands.proofs.Trusted.{table_totals}
use Rattle.kept_commands.proofs.symbols_command.write_board.Goals as goal

pub write_symbols-requires-clause-pcs : goal.write_symbols-requires-clause-pcs
write_symbols-requires-clause-pcs g c =
    let b = c.args.opened.now.baseline in
    golden_pcs b.case c.case.result.now b.golden c.golden-golden.result.now c.pcs.result.now c.case.ensures c.golden-golden.ensures c.pcs.ensures c.facts.ensures.runs

pub returns-in_err-write_symbols-clause-bytes : goal.returns-in_err-write_symbols-clause-bytes
returns-in_err-write_symbols-clause-bytes g c = λ told.
    let b = c.args.opened.now.baseline in
    let board = c.args.opened.now.board in
    let part = subst (λ (d : CaseData). TookPart (g.O.Sink.taken c.args.out.now) (g.O.Sink.taken c.write_symbols.new.out) (symbols_text d board c.args.symbols.now)) c.case.ensures (c.in_err-write_symbols.ensures.bytes told) in
    writes_part _ _ _ _ c.from_residual.ensures.0 (part_before _ _ _ _ part)

pub returns-in-Ok-clause-bytes : goal.returns-in-Ok-clause-bytes
returns-in-Ok-clause-bytes g c = λ told.
    let b = c.args.opened.now.baseline in
    let board = c.args.opened.now.board in
    let totals = table_totals b.case b.list c.args.totals.now board c.facts.ensures.jobs c.requires.totals in
    let many = c.count.ensures.value ∙ ap (λ (run : GoldenData). length run.touches) c.golden-golden.ensures in
    let whole = board_written b.case c.case.result.now b.golden c.args.symbols.now board c.count.result c.sites.result c.args.totals.now c.case.ensures c.facts.ensures.runs many c.sites.ensures totals in
    subst (λ (t : List ℕ). g.O.Sink.taken c.write_text.new.out ≡ g.O.Sink.taken c.args.out.now ++ t) whole
    (whole_after _ _ _ _ _ (c.in_ok-write_symbols.ensures.bytes told) (c.in-Ok.ensures.bytes told))

pub returns-in-Err-clause-bytes : goal.returns-in-Err-clause-bytes
returns-in-Err-clause-bytes g c = λ told.
    let b = c.args.opened.now.baseline in
    let board = c.args.opened.now.board in
    let totals = table_totals b.case b.list c.args.totals.now board c.facts.ensures.jobs c.requires.totals in
    let many = c.count.ensures.value ∙ ap (λ (run : GoldenData). length run.touches) c.golden-golden.ensures in
    let whole = board_written b.case c.case.result.now b.golden c.args.symbols.now board c.count.result c.sites.result c.args.totals.now c.case.ensures c.facts.ensures.runs many c.sites.ensures totals in
    subst (TookPart (g.O.Sink.taken c.args.out.now) (g.O.Sink.taken c.write_text.new.out)) whole
    (part_after _ _ _ _ _ (c.in_ok-write_symbols.ensures.bytes told) (c.in-Err.ensures.bytes told))
