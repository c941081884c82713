use Rattle.std.proofs.Common.{◌≡◌, ◌-◌, min, length, arith}
use Rattle.window_counts.proofs.Tables.{at_ends}
use Rattle.window_counts.proofs.windows.Window.between.Goals as goal
use Rattle.window_counts.proofs.windows.Window.between.Goals.{then-end-cycles, else-end-cycles, then-start-end, else-start-end}

pub overflow_sub-result : goal.overflow_sub-result
overflow_sub-result c =
    let e : c.if-end-cycles.end ≡ min c.args.end (length c.self.inside.before.items - 1) = elim c.if-end-cycles.branch [ then-end-cycles w ↦ omega arith | else-end-cycles w ↦ omega arith ] in
    let s : c.if-start-end.start ≡ min c.args.start c.if-end-cycles.end = elim c.if-start-end.branch [ then-start-end w ↦ omega arith | else-start-end w ↦ omega arith ] in
    rw c.as_slice-before.ensures.value (at_ends c.self.inside.before.items c.args.start c.args.end c.if-start-end.start c.if-end-cycles.end c.self.invariant e s).0

pub returns : goal.returns
returns c =
    let e : c.if-end-cycles.end ≡ min c.args.end (length c.self.inside.before.items - 1) = elim c.if-end-cycles.branch [ then-end-cycles w ↦ omega arith | else-end-cycles w ↦ omega arith ] in
    let s : c.if-start-end.start ≡ min c.args.start c.if-end-cycles.end = elim c.if-start-end.branch [ then-start-end w ↦ omega arith | else-start-end w ↦ omega arith ] in
    rw (← c.self.view_is, c.as_slice-before.ensures.value) (at_ends c.self.inside.before.items c.args.start c.args.end c.if-start-end.start c.if-end-cycles.end c.self.invariant e s).1
