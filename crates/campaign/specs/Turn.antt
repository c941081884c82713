-- The next pages of a campaign, as the functions see them that run one or several.
use Rattle.std.specs.Prelude.{ℕ, Bool, min, List, take, Option, Some, None}
use Rattle.fs_model.specs.declared.outcomes.Row.{Row}
use Rattle.fs_model.specs.Job.{jobs_in}
use Rattle.fs_model.specs.Outcome.{outcome}
use Rattle.result_keeper.specs.Blanks.{batches_for}
use Rattle.result_keeper.specs.Keep.{KeeperData}
use Rattle.campaign.specs.Ready.{ReadyData, portion_of}
use Rattle.campaign.specs.Portions.{due}
use Rattle.def_use.specs.Rows.{rows_of}
use Rattle.worker_pool.specs.Steps.{steps_of_numbers}

-- the rows of the portion's next missing jobs of a keeper's board
abbrev pub page_of : (ℕ → Bool) → KeeperData → ℕ → List Row
page_of portion keeper count = rows_of (outcome keeper.case) (jobs_in keeper.case) (take count (due portion keeper.board))

-- and the steps that these jobs take
abbrev pub steps_of_page : ReadyData → ℕ → ℕ
steps_of_page ready count =
    steps_of_numbers ready.keeper.case ready.spacing (jobs_in ready.keeper.case) (take count (due (portion_of ready) ready.keeper.board))

-- the batches of the first `most` missing jobs of the portion
abbrev pub first_batches : (ℕ → Bool) → KeeperData → ℕ → List (List Row)
first_batches portion keeper most = batches_for (outcome keeper.case) (jobs_in keeper.case) keeper.page (take most (due portion keeper.board))

-- the budget, or all
abbrev pub least_of : Option ℕ → ℕ → ℕ
least_of None all = all
least_of (Some most) all = min most all
