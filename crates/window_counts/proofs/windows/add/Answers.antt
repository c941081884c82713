use Rattle.std.proofs.Common.{◌≡◌, ◌-◌, ◌+◌, ◌++◌, ◌∷◌, [], cond, ap, ◌∙◌, length, arith}
use Rattle.std.specs.Prelude.{slice_index}
use Rattle.std.proofs.lemmas.List.{get_or_read_under}
use Rattle.window_counts.proofs.Tables.{IsMore, one_more, last-le}
use Rattle.window_counts.proofs.windows.add.Goals as goal
use Rattle.window_counts.proofs.windows.add.Goals.{then-inside, else-inside}

pub overflow_add-next : goal.overflow_add-next
overflow_add-next c =
    let before = c.args.before.now.items in
    let some = c.requires.table.some in
    let at : c.len.result - 1 ≡ length before - 1 = omega arith in
    let last : c.index-last.result.now ≡ slice_index before (length before - 1) = get_or_read_under before (c.len.result - 1) (length before) _ 0 c.index-last.ensures (omega arith) (omega arith) ∙ ap (slice_index before) at in
    record { fits = omega (arith, last-le before c.requires.table, c.requires.room) }

more : (c : goal.In_ok-push) → IsMore c.args.before.now.items c.push.new.self.items c.args.inside
more c =
    let before = c.args.before.now.items in
    let some = c.requires.table.some in
    let at : c.len.result - 1 ≡ length before - 1 = omega arith in
    let last : c.index-last.result.now ≡ slice_index before (length before - 1) = get_or_read_under before (c.len.result - 1) (length before) _ 0 c.index-last.ensures (omega arith) (omega arith) ∙ ap (slice_index before) at in
    let next : c.if-inside.next ≡ cond c.args.inside (c.index-last.result.now + 1) c.index-last.result.now =
    elim c.if-inside.branch [ then-inside w ↦ rw (w.if-inside.true) w.next-is | else-inside w ↦ rw (w.if-inside.false) w.next-is ] in
    one_more before c.push.new.self.items c.args.inside c.index-last.result.now c.requires.table (omega (arith, c.requires.room)) last (c.in_ok-push.ensures.items ∙ ap (λ n. before ++ n ∷ []) next)

pub returns-clause-table : goal.returns-clause-table
returns-clause-table c = (more c).table

pub returns-clause-window : goal.returns-clause-window
returns-clause-window c = (more c).window
