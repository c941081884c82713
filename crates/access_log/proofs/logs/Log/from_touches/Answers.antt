use Rattle.std.proofs.Common.{◌+◌, get_or, arith}
use Rattle.fs_model.specs.Cell.{first_cell}
use Rattle.access_log.proofs.Touched.{ascending_in}
use Rattle.access_log.proofs.logs.Log.from_touches.Goals as goal

pub index_of-requires-clause-ascending : goal.index_of-requires-clause-ascending
index_of-requires-clause-ascending c = λ k d h.
    ascending_in (first_cell c.args.pc) 0 (32 + c.args.map.now.ram_size) c.end_of_cells.result (get_or c.args.touches.now k d) (omega arith) (omega (arith, c.ram_size-ram.ensures, c.end_of_cells.ensures)) (c.requires.within k d h).ascending
