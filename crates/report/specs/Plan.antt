-- The plan of a list of jobs.
use Rattle.std.specs.Prelude.{ℕ, List, length, sum_by}
use Rattle.fs_model.specs.Job.{JobTable}
use Rattle.report.specs.Text.{plan_text}

-- a site is live where it belongs to a job, and the weight of a job is the number of its sites
abbrev pub plan_of : ℕ → ℕ → JobTable → List ℕ
plan_of cycles sites table =
    plan_text cycles sites (length table.list) (sum_by (λ job. job.weight) table.list) table.dead
