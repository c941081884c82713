use Rattle.std.proofs.Common.{List, [], ◌∷◌, ◌++◌, sym, ap, ◌∙◌, append_assoc}
use Rattle.keep_format.specs.declared.rows.KeptRow.{KeptRow}
use Rattle.keep_format.proofs.batches.list_rows.Goals as goal

pub loop-row-preserved : goal.loop-row-preserved
loop-row-preserved c = record {
  can_next = tt;
  is_finite = tt;
  so_far =
      ap (λ (l : List KeptRow). l ++ c.next.new.self) c.in-Ok.ensures.items
      ∙ append_assoc c.loop-row.list.items (c.in-Some.row ∷ []) c.next.new.self
      ∙ ap (λ (l : List KeptRow). c.loop-row.list.items ++ l) (sym c.in-Some.ensures.steps)
      ∙ c.loop-row.invariant.so_far;
}
