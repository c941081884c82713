use Rattle.std.proofs.Common.{◌*◌, ◌∙◌, ap, arith}
use Rattle.std.specs.Prelude.{slice_index}
use Rattle.fs_model.specs.Job.{job_list}
use Rattle.site_counts.specs.Counts.{count_where, dead_where, spread, weight_where}
use Rattle.site_counts.specs.Lines.{totals_at}
use Rattle.site_counts.proofs.DeadTotals.{dead_counts}
use Rattle.site_counts.proofs.cell_bits.add_dead.Goals as goal

pub returns-clause-counts : goal.returns-clause-counts
returns-clause-counts c = λ l outcomes test k low cycles sum whole counts o.
    dead_counts (λ p. count_where l (spread l outcomes) test test p) (c.args.cycles * slice_index c.args.bits.now k) (weight_where test (job_list l)) (dead_where l test)
    (totals_at c.args.totals.now k) (totals_at c.loop-line.totals k) (c.loop-line.invariant.done k (omega (arith, c.loop-line.invariant.long))) sum (whole ∙ ap (λ n. n * slice_index c.args.bits.now k) cycles) counts o
