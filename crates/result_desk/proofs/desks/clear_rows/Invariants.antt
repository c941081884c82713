use Rattle.std.proofs.Common.{◌≡◌, None, vec_capacity}
use Rattle.std.specs.Prelude.{replicate}
use Rattle.result_desk.proofs.desks.clear_rows.Given as goal

abbrev pub invariant-loop-i : goal.invariant-loop-i
invariant-loop-i l = (l.rows.items ≡ replicate l._i None) × (vec_capacity l.rows ≡ vec_capacity l.fn.rows)
