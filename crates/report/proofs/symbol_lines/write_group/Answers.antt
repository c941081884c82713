use Rattle.std.proofs.Common.{◌≡◌, ◌+◌, ◌<◌, ◌++◌, ℕ, List, get_or, length, ap, arith, subst}
use Rattle.std.specs.Prelude.{codes}
use Rattle.std.proofs.lemmas.List.{get_or_read}
use Rattle.fs_model.specs.declared.outcomes.Outcome.{Outcome}
use Rattle.fs_model.specs.Outcome.{TotalsData, no_totals, total_at}
use Rattle.fs_outside.specs.Writing.{TookPart, Writes}
use Rattle.fs_outside.proofs.Writes.{fails_after, fails_first, part_before}
use Rattle.report.specs.SymbolLines.{counts_in, those_text}
use Rattle.report.specs.Symbols.{counts_line}
use Rattle.report.proofs.Behind.{behind}
use Rattle.report.proofs.SymbolTexts.{group_written}
use Rattle.report.proofs.symbol_lines.write_group.Goals as goal

-- the totals that are read at a place
at_place : (totals : List TotalsData) (k : ℕ) (t : TotalsData) → k < length totals → t ≡ get_or totals k t → total_at t ≡ counts_in totals k
at_place totals k t low is = ap (λ (x : TotalsData). λ (o : Outcome). total_at x o) (get_or_read totals k t low is no_totals)

pub returns-in_err-write_those-clause-bytes : goal.returns-in_err-write_those-clause-bytes
returns-in_err-write_those-clause-bytes g c =
    let counts = counts_in c.args.totals.now in
    let n : ℕ = length c.args.symbols.now in
    group_written g.O.Sink.tells (g.O.Sink.taken c.args.out.now) (g.O.Sink.taken c.write_those.new.out) c.args.word.now c.args.last.now c.args.function c.args.symbols.now counts c.from_residual.result
    (fails_first g.O.Sink.tells (g.O.Sink.taken c.args.out.now) (g.O.Sink.taken c.write_those.new.out) (those_text c.args.function c.args.word.now c.args.symbols.now counts n)
    (counts_line c.args.word.now (codes "(none)") (counts n) ++ counts_line c.args.word.now c.args.last.now (counts (n + 1))) c.from_residual.result
    c.from_residual.ensures.0 c.in_err-write_those.ensures.bytes)

pub returns-in_err-write_line-clause-bytes : goal.returns-in_err-write_line-clause-bytes
returns-in_err-write_line-clause-bytes g c =
    let counts = counts_in c.args.totals.now in
    let n : ℕ = length c.args.symbols.now in
    let none : total_at c.index-totals-symbols.result ≡ counts n = at_place c.args.totals.now n c.index-totals-symbols.result (omega arith) c.index-totals-symbols.is in
    group_written g.O.Sink.tells (g.O.Sink.taken c.args.out.now) (g.O.Sink.taken c.write_line.new.out) c.args.word.now c.args.last.now c.args.function c.args.symbols.now counts c.from_residual-in_err-write_line.result
    (fails_after g.O.Sink.tells (g.O.Sink.taken c.args.out.now) (g.O.Sink.taken c.write_those.new.out) (g.O.Sink.taken c.write_line.new.out) (those_text c.args.function c.args.word.now c.args.symbols.now counts n)
    (counts_line c.args.word.now (codes "(none)") (counts n) ++ counts_line c.args.word.now c.args.last.now (counts (n + 1))) c.from_residual-in_err-write_line.result
    c.from_residual-in_err-write_line.ensures.0 c.in_ok-write_those.ensures.bytes
    (λ told. part_before (g.O.Sink.taken c.write_those.new.out) (g.O.Sink.taken c.write_line.new.out) (counts_line c.args.word.now (codes "(none)") (counts n)) (counts_line c.args.word.now c.args.last.now (counts (n + 1)))
    (subst (λ f. TookPart (g.O.Sink.taken c.write_those.new.out) (g.O.Sink.taken c.write_line.new.out) (counts_line c.args.word.now (codes "(none)") f)) none (c.in_err-write_line.ensures.bytes told))))

pub returns-clause-bytes : goal.returns-clause-bytes
returns-clause-bytes g c =
    let counts = counts_in c.args.totals.now in
    let n : ℕ = length c.args.symbols.now in
    let none : total_at c.index-totals-symbols.result ≡ counts n = at_place c.args.totals.now n c.index-totals-symbols.result (omega arith) c.index-totals-symbols.is in
    let end : total_at c.index-totals-symbols-2.result ≡ counts (n + 1) = at_place c.args.totals.now (n + 1) c.index-totals-symbols-2.result (omega arith) c.index-totals-symbols-2.is in
    group_written g.O.Sink.tells (g.O.Sink.taken c.args.out.now) (g.O.Sink.taken c.write_line-2.new.out) c.args.word.now c.args.last.now c.args.function c.args.symbols.now counts c.write_line-2.result
    (behind g.O.Sink.tells (g.O.Sink.taken c.args.out.now) (g.O.Sink.taken c.write_those.new.out) (g.O.Sink.taken c.write_line-2.new.out) (those_text c.args.function c.args.word.now c.args.symbols.now counts n)
    (counts_line c.args.word.now (codes "(none)") (counts n) ++ counts_line c.args.word.now c.args.last.now (counts (n + 1))) c.write_line-2.result
    c.in_ok-write_those.ensures.bytes
    (behind g.O.Sink.tells (g.O.Sink.taken c.write_those.new.out) (g.O.Sink.taken c.write_line.new.out) (g.O.Sink.taken c.write_line-2.new.out) (counts_line c.args.word.now (codes "(none)") (counts n)) (counts_line c.args.word.now c.args.last.now (counts (n + 1))) c.write_line-2.result
    (λ told. subst (λ f. g.O.Sink.taken c.write_line.new.out ≡ g.O.Sink.taken c.write_those.new.out ++ counts_line c.args.word.now (codes "(none)") f) none (c.in_ok-write_line.ensures.bytes told))
    (λ told. subst (λ f. Writes (g.O.Sink.taken c.write_line.new.out) (g.O.Sink.taken c.write_line-2.new.out) (counts_line c.args.word.now c.args.last.now f) c.write_line-2.result) end
    (subst (λ name. Writes (g.O.Sink.taken c.write_line.new.out) (g.O.Sink.taken c.write_line-2.new.out) (counts_line c.args.word.now name (total_at c.index-totals-symbols-2.result)) c.write_line-2.result) c.as_bytes.ensures.value (c.write_line-2.ensures.bytes told)))))
