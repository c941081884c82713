use Rattle.std.proofs.Common.{◌≡◌, take, length}
use Rattle.std.specs.Prelude.{flat_map}
use Rattle.def_use.specs.Reads.{jobs_of_read}
use Rattle.site_counts.proofs.LineTotals.{AreSummed}
use Rattle.site_counts.proofs.lines.counts_by.Given as goal

abbrev pub invariant-loop-read : goal.invariant-loop-read
invariant-loop-read g l = record {
  first : l.first ≡ length (flat_map jobs_of_read (take l.read-index l.reads));
  summed : AreSummed (g.L.Lines.line l.lines) (g.L.Lines.count l.lines) l.list.list l.board l.first l.totals;
}

abbrev pub invariant-loop-number : goal.invariant-loop-number
invariant-loop-number g l = AreSummed (g.L.Lines.line l.lines) (g.L.Lines.count l.lines) l.list.list l.board l.number l.totals
