use Rattle.std.proofs.Common.{◌≡◌, arith, ap, ◌∙◌, ◌-◌, length}
use Rattle.std.specs.Prelude.{slice_index}
use Rattle.std.proofs.lemmas.List.{get_or_read_under}
use Rattle.window_counts.proofs.Tables.{at_last}
use Rattle.window_counts.proofs.windows.Window.len.Goals as goal

pub returns : goal.returns
returns c =
    let before = c.self.inside.before.items in
    let some = c.self.invariant.some in
    let at : c.len.result - 1 ≡ length before - 1 = omega arith in
    rw (← c.self.view_is) (get_or_read_under before (c.len.result - 1) (length before) _ 0 c.index.ensures (omega arith) (omega arith) ∙ ap (slice_index before) at ∙ at_last before c.self.invariant)
