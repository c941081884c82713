use Rattle.std.proofs.Common.{◌≡◌, ◌&&◌, ◌++◌, ◌∷◌, [], List, Bool, sym, ap, ◌∙◌, arith}
use Rattle.std.specs.Prelude.{nat_le}
use Rattle.std.proofs.lemmas.Bool.Decides.{nat_tests}
use Rattle.window_counts.specs.Windows.{cycle_window}
use Rattle.window_counts.proofs.Ranges.{map_more}
use Rattle.window_counts.proofs.windows.table_of_cycles.Goals as goal
use Rattle.window_counts.proofs.windows.table_of_cycles.Goals.{then-first-cycle, else-first-cycle}

pub loop-cycle-preserved : goal.loop-cycle-preserved
loop-cycle-preserved c =
    let i = c.loop-cycle.cycle in
    let flag : c.if-first-cycle.add ≡ (nat_le c.args.first i && nat_le i c.args.last) =
    elim c.if-first-cycle.branch [
      | then-first-cycle w ↦ let low = w.if-first-cycle.true in rw (w.add-is) (grind (arith, nat_tests))
      | else-first-cycle w ↦ let low = w.if-first-cycle.false in rw (w.add-is) (grind (arith, nat_tests))
    ] in
    record {
      table = c.in_ok-add.ensures.table;
      window = c.in_ok-add.ensures.window ∙ ap (λ (l : List Bool). l ++ c.if-first-cycle.add ∷ []) c.loop-cycle.invariant.window
          ∙ ap (λ b. cycle_window i c.args.first c.args.last ++ b ∷ []) flag ∙ sym (map_more (λ cycle. nat_le c.args.first cycle && nat_le cycle c.args.last) i);
      count = omega (arith, c.in_ok-add.ensures.count, c.loop-cycle.invariant.count);
    }
