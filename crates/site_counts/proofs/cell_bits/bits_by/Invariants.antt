use Rattle.site_counts.proofs.LineBits.{AreBits}
use Rattle.site_counts.proofs.cell_bits.bits_by.Given as goal

abbrev pub invariant-loop-cell : goal.invariant-loop-cell
invariant-loop-cell g l = AreBits (g.L.Lines.line l.lines 0) (g.L.Lines.count l.lines) l.initial.cell l.cell l.sums
