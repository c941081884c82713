use Rattle.std.proofs.Common.{arith}
use Rattle.fs_model.proofs.SiteList.{first_one}
use Rattle.site_counts.proofs.LineBits.{bits_more, bits_room, bits_end, bits_whole}
use Rattle.site_counts.proofs.cell_bits.bits_by.Goals as goal

pub add_bits-requires-clause-room : goal.add_bits-requires-clause-room
add_bits-requires-clause-room g c =
    let room = bits_room (g.L.Lines.line c.args.lines.now 0) (g.L.Lines.count c.args.lines.now) c.first_cell-cell.result c.loop-cell.cell c.line_of-line.result c.loop-cell.sums c.loop-cell.invariant (omega (arith, c.line_of-line.ensures, c.requires.low 0 c.loop-cell.cell)) in
    omega (arith, room, c.bits.ensures.few, c.requires.ram, c.end_of_cells-cell-end.ensures)

pub loop-cell-preserved : goal.loop-cell-preserved
loop-cell-preserved g c =
    bits_more (g.L.Lines.line c.args.lines.now 0) (g.L.Lines.count c.args.lines.now) c.first_cell-cell.result c.loop-cell.cell c.line_of-line.result c.bits.result c.loop-cell.sums c.add_bits.new.sums
    (omega arith) c.line_of-line.ensures (omega (arith, c.line_of-line.ensures, c.requires.low 0 c.loop-cell.cell)) c.bits.ensures.value c.add_bits.ensures c.loop-cell.invariant

pub returns-clause-bits : goal.returns-clause-bits
returns-clause-bits g c = λ k low.
    bits_end (g.L.Lines.line c.args.lines.now 0) (g.L.Lines.count c.args.lines.now) c.args.ram c.args.pc c.first_cell-cell.result c.loop-cell.cell c.loop-cell.sums c.first_cell-cell.ensures (omega (arith, first_one c.args.pc, c.end_of_cells-cell-end.ensures)) c.loop-cell.invariant k low

pub returns-clause-whole : goal.returns-clause-whole
returns-clause-whole g c = λ l is_ram is_pc k low.
    bits_whole (g.L.Lines.line c.args.lines.now) l c.args.ram c.args.pc k _ c.requires.by_cell is_ram is_pc (returns-clause-bits g c k low)
