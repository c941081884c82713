use Rattle.site_counts.proofs.DeadTotals.{AreDead}
use Rattle.site_counts.proofs.cell_bits.add_dead.Given as goal

abbrev pub invariant-loop-line : goal.invariant-loop-line
invariant-loop-line l = AreDead l.cycles l.bits l.initial.totals l.line l.totals
