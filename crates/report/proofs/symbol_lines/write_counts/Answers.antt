use Rattle.std.proofs.Common.{[], ◌∷◌}
use Rattle.fs_outside.proofs.Writes.{fails_first}
use Rattle.fs_model.specs.Outcome.{all_outcomes, total_at}
use Rattle.report.specs.SymbolLines.{numbers_text}
use Rattle.report.proofs.Behind.{behind}
use Rattle.report.proofs.symbol_lines.write_counts.Goals as goal

pub returns-in_err-write_numbers-clause-bytes : goal.returns-in_err-write_numbers-clause-bytes
returns-in_err-write_numbers-clause-bytes g c =
    fails_first g.O.Sink.tells (g.O.Sink.taken c.args.out.now) (g.O.Sink.taken c.write_numbers.new.out) (numbers_text all_outcomes (total_at c.args.totals.now)) (10 ∷ []) c.from_residual.result c.from_residual.ensures.0 c.in_err-write_numbers.ensures.bytes

pub returns-clause-bytes : goal.returns-clause-bytes
returns-clause-bytes g c =
    behind g.O.Sink.tells (g.O.Sink.taken c.args.out.now) (g.O.Sink.taken c.write_numbers.new.out) (g.O.Sink.taken c.write_whole.new.out) (numbers_text all_outcomes (total_at c.args.totals.now)) (10 ∷ []) c.write_whole.result
    c.in_ok-write_numbers.ensures.bytes c.write_whole.ensures.bytes
