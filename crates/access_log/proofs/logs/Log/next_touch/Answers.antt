use Rattle.std.proofs.Common.{◌+◌, get_or, arith}
use Rattle.fs_model.specs.Cell.{first_cell}
use Rattle.access_log.proofs.Touched.{ascending_in}
use Rattle.access_log.proofs.logs.Log.next_touch.Goals as goal

pub next_of-requires-clause-ascending : goal.next_of-requires-clause-ascending
next_of-requires-clause-ascending c = λ k d h.
    ascending_in (first_cell c.self.inside.pc) 0 (32 + c.self.inside.ram) c.end_of_cells.result (get_or c.self.inside.touches.now k d) (omega arith) (omega (arith, c.end_of_cells.ensures)) (c.self.invariant.0.within k d h).ascending
