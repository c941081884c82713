-- Which jobs a command on a campaign file runs, or asks for.
use Rattle.std.specs.Prelude.{ℕ, Bool, List, Option, Some, None}
use Rattle.fs_model.specs.declared.outcomes.Outcome.{Outcome}
use Rattle.fs_model.specs.declared.outcomes.Row.{Row}
use Rattle.fs_model.specs.Case.{CaseData}
use Rattle.campaign.specs.Rows.{batches}
use Rattle.campaign.specs.Shards.{in_shard}
use Rattle.command_line.specs.Request.{CampaignData}

-- the missing jobs that pass a test, such as those of a shard, and of these at most the budget, if there is one
pub record Portion : Type 0 where
  pub budget : Option ℕ
  pub jobs : ℕ → Bool

-- those that `run` is asked for
abbrev pub run_portion : CampaignData → Portion
run_portion asked = record { budget = asked.stop_after; jobs = in_shard asked.shard }

-- none, so that no job may be missing,
abbrev pub no_job : Portion
no_job = record { budget = Some 0; jobs = in_shard None }

-- and all, so that any may
abbrev pub each_job : Portion
each_job = record { budget = None; jobs = in_shard None }

-- the rows that `run` appends to a file that gave this board, in pages
abbrev pub run_due : CampaignData → CaseData → List (Option Outcome) → List (List Row)
run_due asked c board = batches c (in_shard asked.shard) board asked.page asked.stop_after
