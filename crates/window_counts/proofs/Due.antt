-- A job is due exactly where its clipped weight is not 0.
use Rattle.std.proofs.Common.{◌+◌, ◌-◌, ◌<◌, Bool, List, arith}
use Rattle.fs_model.specs.declared.sites.Job.{Job}
use Rattle.window_counts.specs.Windows.{in_window, cycles_between, weight_inside, IsDue}
use Rattle.window_counts.specs.Laws.{DueWeight}
use Rattle.window_counts.proofs.Ranges.{count_some, some_count}

pub due_weighs : (window : List Bool) (job : Job) → IsDue window job → 0 < weight_inside window job
unfolding cycles_between
due_weighs window job h =
    some_count (in_window window) (job.cycle + 1 - job.weight) (job.cycle + 1 - (job.cycle + 1 - job.weight))
    (record { at = h.cycle; low = h.first; high = omega (arith, h.first, h.last); passes = h.inside })

pub weighs_due : (window : List Bool) (job : Job) → 0 < weight_inside window job → IsDue window job
unfolding cycles_between
weighs_due window job h =
    let r = count_some (in_window window) (job.cycle + 1 - job.weight) (job.cycle + 1 - (job.cycle + 1 - job.weight)) h in
    record { cycle = r.at; first = r.low; last = omega (arith, r.low, r.high); inside = r.passes }

pub due_weight : DueWeight
due_weight window job = (due_weighs window job, weighs_due window job)
