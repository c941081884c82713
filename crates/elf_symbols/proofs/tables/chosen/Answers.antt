use Rattle.std.proofs.Common.{sym, ◌∙◌}
use Rattle.std.proofs.lemmas.Result.{err_from_is_err_and}
use Rattle.elf_symbols.proofs.Walks.{goes_past, takes, ends_badly, all_listed, names_alone, some_listed}
use Rattle.elf_symbols.proofs.tables.chosen.Goals as goal
use Rattle.elf_symbols.proofs.tables.chosen.Goals.{then-is_chosen+in-Some+in_ok-push-in-Some, else-is_chosen}

pub returns-in-None-clause-err : goal.returns-in-None-clause-err
returns-in-None-clause-err c =
    ends_badly _ _ _ _ _ _ _ c.symbol_entry-entry.result c.loop-k-test.true c.symbol_entry-entry.ensures (sym c.is_chosen.ensures ∙ c.if-is_chosen.true) (sym c.name_at.ensures ∙ c.in-None.is) c.loop-k.invariant

pub loop-k-preserved : goal.loop-k-preserved
loop-k-preserved c =
    elim c.if-is_chosen.branch [
      | then-is_chosen+in-Some+in_ok-push-in-Some w ↦
          let next = takes c.args.bytes.now c.args.strings.now c.loop-k.list.items c.args.table.now.sh_offset c.loop-k.k _ _ c.symbol_entry-entry.result w.in-Some.name c.loop-k-test.true c.symbol_entry-entry.ensures
          (sym c.is_chosen.ensures ∙ w.if-is_chosen.true) (sym w.name_at.ensures ∙ w.in-Some.is) c.loop-k.invariant in
          rw (w.list-is, w.in_ok-push-in-Some.ensures.items, w.is_function.ensures) next
      | else-is_chosen w ↦
          rw w.list-is (goes_past _ _ _ _ _ _ _ c.symbol_entry-entry.result c.loop-k-test.true c.symbol_entry-entry.ensures (sym c.is_chosen.ensures ∙ w.if-is_chosen.false) c.loop-k.invariant)
    ]

pub returns-clause-ok : goal.returns-clause-ok
returns-clause-ok c = all_listed _ _ _ _ _ _ _ c.loop-k-test.false c.loop-k.invariant

pub returns-in_err-push-in-Some-clause-err : goal.returns-in_err-push-in-Some-clause-err
returns-in_err-push-in-Some-clause-err c =
    let p = err_from_is_err_and c.from_residual.result c.from_residual.ensures.1 in
    rw (p.1, p.2)
    (names_alone _ _, some_listed _ _ _ _ _ _ _ c.symbol_entry-entry.result c.in-Some.name c.loop-k-test.true c.symbol_entry-entry.ensures (sym c.is_chosen.ensures ∙ c.if-is_chosen.true) (sym c.name_at.ensures ∙ c.in-Some.is) c.loop-k.invariant)
