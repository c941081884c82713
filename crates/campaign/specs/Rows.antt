-- The rows that a campaign keeps, and in which batches.
use Rattle.std.specs.Prelude.{ℕ, Bool, Option, List}
use Rattle.fs_model.specs.declared.outcomes.Outcome.{Outcome}
use Rattle.fs_model.specs.declared.outcomes.Row.{Row}
use Rattle.fs_model.specs.Case.{CaseData}
use Rattle.fs_model.specs.Job.{jobs_in}
use Rattle.fs_model.specs.Outcome.{outcome}
use Rattle.fs_model.specs.Pages.{within_budget}
use Rattle.result_keeper.specs.Blanks.{batches_for}
use Rattle.campaign.specs.Portions.{due}

-- what a campaign appends: the jobs of its portion that are missing on the board, within a budget, in batches of a page
abbrev pub batches : CaseData → (ℕ → Bool) → List (Option Outcome) → ℕ → Option ℕ → List (List Row)
batches c portion board page budget = batches_for (outcome c) (jobs_in c) page (within_budget budget (due portion board))
