-- How many steps jobs take.
use Rattle.std.specs.Prelude.{ℕ, ◌+◌, Option, Some, None, List, [], ◌∷◌, slice_get}
use Rattle.fs_model.specs.declared.sites.Job.{Job}
use Rattle.fs_model.specs.Case.{CaseData}
use Rattle.fs_model.specs.Run.{cycles}
use Rattle.experiment.specs.Jobs.{steps_of_job}

-- those of one job, if it is there
abbrev pub steps_at : CaseData → ℕ → Option Job → ℕ
steps_at c spacing None = 0
steps_at c spacing (Some job) = steps_of_job c spacing (cycles c) job

-- those of the jobs of these numbers
unfoldable pub steps_of_numbers : CaseData → ℕ → List Job → List ℕ → ℕ
steps_of_numbers c spacing list [] = 0
steps_of_numbers c spacing list (number ∷ numbers) = steps_at c spacing (slice_get list number) + steps_of_numbers c spacing list numbers
