use Rattle.std.proofs.Common.{◌++◌, List, ℕ, ap, ◌∙◌, subst}
use Rattle.fs_outside.specs.Writing.{TookPart}
use Rattle.report.proofs.SymbolTexts.{both_are}
use Rattle.report.proofs.symbols.write_symbols.Goals as goal

pub returns-in-Ok-write_groups-clause-bytes : goal.returns-in-Ok-write_groups-clause-bytes
returns-in-Ok-write_groups-clause-bytes g c = λ told.
    c.in-Ok-write_groups.ensures.bytes told
    ∙ ap (λ (text : List ℕ). g.O.Sink.taken c.args.out.now ++ text) (both_are c.args.case.now c.args.board.now c.args.symbols.now _ _ _ _ c.deref.ensures.value c.deref-2.ensures.value c.in-Ok.ensures)

pub returns-clause-bytes : goal.returns-clause-bytes
returns-clause-bytes g c = λ told.
    subst (TookPart (g.O.Sink.taken c.args.out.now) (g.O.Sink.taken c.write_groups.new.out)) (both_are c.args.case.now c.args.board.now c.args.symbols.now _ _ _ _ c.deref.ensures.value c.deref-2.ensures.value c.in-Ok.ensures)
    (c.in-Err.ensures.bytes told)
