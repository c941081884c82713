-- The rows of jobs: a job's name, with an outcome.
use Rattle.std.specs.Prelude.{ℕ, Option, Some, None, List, [], ◌∷◌, slice_get}
use Rattle.fs_model.specs.declared.sites.Site.{Site}
use Rattle.fs_model.specs.declared.sites.Job.{Job}
use Rattle.fs_model.specs.declared.outcomes.Outcome.{Outcome}
use Rattle.fs_model.specs.declared.outcomes.Row.{Row}
use Rattle.fs_model.specs.Job.{site_of}

-- the row of a job, with the outcome of its site
abbrev pub row_of_job : (Site → Outcome) → Job → Row
row_of_job outcomes job = record { cycle = job.cycle; cell = job.cell; bit = job.bit; outcome = outcomes (site_of job) }

-- in front of other rows, where there is a job
abbrev pub with_row : (Site → Outcome) → Option Job → List Row → List Row
with_row outcomes None rows = rows
with_row outcomes (Some job) rows = row_of_job outcomes job ∷ rows

-- the rows of the jobs of these numbers, in order
unfoldable pub rows_of : (Site → Outcome) → List Job → List ℕ → List Row
rows_of outcomes list [] = []
rows_of outcomes list (number ∷ numbers) = with_row outcomes (slice_get list number) (rows_of outcomes list numbers)
