use Rattle.std.proofs.Common.{◌≡◌, take, length}
use Rattle.std.specs.Prelude.{flat_map}
use Rattle.def_use.specs.Reads.{jobs_of_read}
use Rattle.window_counts.proofs.Summed.{IsSummed}
use Rattle.window_counts.proofs.counts.counts_in.Given as goal

abbrev pub invariant-loop-read : goal.invariant-loop-read
invariant-loop-read l = record {
  first : l.first ≡ length (flat_map jobs_of_read (take l.read-index l.reads));
  summed : IsSummed l.window l.list.list l.board l.first l.totals;
}

abbrev pub invariant-loop-number : goal.invariant-loop-number
invariant-loop-number l = IsSummed l.window l.list.list l.board l.number l.totals
