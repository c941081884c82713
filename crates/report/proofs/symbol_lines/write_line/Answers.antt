use Rattle.std.proofs.Common.{[], ◌∷◌, ◌++◌, ℕ, List, map}
use Rattle.fs_model.specs.Outcome.{total_at}
use Rattle.fs_outside.proofs.Writes.{fails_after, fails_first, part_before}
use Rattle.report.specs.Symbols.{counts_text, shown}
use Rattle.report.proofs.Behind.{behind}
use Rattle.report.proofs.SymbolTexts.{line_written}
use Rattle.report.proofs.symbol_lines.write_line.Goals as goal

abbrev front : List ℕ → List ℕ
front word = word ++ 32 ∷ []

pub returns-in_err-write_parts-clause-bytes : goal.returns-in_err-write_parts-clause-bytes
returns-in_err-write_parts-clause-bytes g c =
    line_written g.O.Sink.tells (g.O.Sink.taken c.args.out.now) (g.O.Sink.taken c.write_parts.new.out) c.args.word.now c.args.name.now (total_at c.args.totals.now) c.from_residual.result
    (fails_first g.O.Sink.tells (g.O.Sink.taken c.args.out.now) (g.O.Sink.taken c.write_parts.new.out) (front c.args.word.now) (map shown c.args.name.now ++ counts_text (total_at c.args.totals.now)) c.from_residual.result
    c.from_residual.ensures.0 c.in_err-write_parts.ensures.bytes)

pub returns-in_err-write_name-clause-bytes : goal.returns-in_err-write_name-clause-bytes
returns-in_err-write_name-clause-bytes g c =
    line_written g.O.Sink.tells (g.O.Sink.taken c.args.out.now) (g.O.Sink.taken c.write_name.new.out) c.args.word.now c.args.name.now (total_at c.args.totals.now) c.from_residual-in_err-write_name.result
    (fails_after g.O.Sink.tells (g.O.Sink.taken c.args.out.now) (g.O.Sink.taken c.write_parts.new.out) (g.O.Sink.taken c.write_name.new.out) (front c.args.word.now) (map shown c.args.name.now ++ counts_text (total_at c.args.totals.now))
    c.from_residual-in_err-write_name.result c.from_residual-in_err-write_name.ensures.0 c.in_ok-write_parts.ensures.bytes
    (λ told. part_before (g.O.Sink.taken c.write_parts.new.out) (g.O.Sink.taken c.write_name.new.out) (map shown c.args.name.now) (counts_text (total_at c.args.totals.now)) (c.in_err-write_name.ensures.bytes told)))

pub returns-clause-bytes : goal.returns-clause-bytes
returns-clause-bytes g c =
    line_written g.O.Sink.tells (g.O.Sink.taken c.args.out.now) (g.O.Sink.taken c.write_counts.new.out) c.args.word.now c.args.name.now (total_at c.args.totals.now) c.write_counts.result
    (behind g.O.Sink.tells (g.O.Sink.taken c.args.out.now) (g.O.Sink.taken c.write_parts.new.out) (g.O.Sink.taken c.write_counts.new.out) (front c.args.word.now) (map shown c.args.name.now ++ counts_text (total_at c.args.totals.now)) c.write_counts.result
    c.in_ok-write_parts.ensures.bytes
    (behind g.O.Sink.tells (g.O.Sink.taken c.write_parts.new.out) (g.O.Sink.taken c.write_name.new.out) (g.O.Sink.taken c.write_counts.new.out) (map shown c.args.name.now) (counts_text (total_at c.args.totals.now)) c.write_counts.result
    c.in_ok-write_name.ensures.bytes c.write_counts.ensures.bytes))
