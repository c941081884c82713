-- What one board gains from another, and the rows of that.
use Rattle.std.specs.Prelude.{ℕ, ◌+◌, if◌then◌else◌, Option, Some, None, List, [], ◌∷◌, take, drop, unwrap_or}
use Rattle.fs_model.specs.declared.sites.Site.{Site}
use Rattle.fs_model.specs.declared.sites.Job.{Job}
use Rattle.fs_model.specs.declared.outcomes.Outcome.{Outcome}
use Rattle.fs_model.specs.declared.outcomes.Outcome.TheVariants.{NoEffect}
use Rattle.fs_model.specs.declared.outcomes.Row.{Row}
use Rattle.fs_model.specs.Job.{site_of}
use Rattle.fs_model.specs.Site.{same_site}
use Rattle.def_use.specs.Rows.{rows_of}
use Rattle.result_keeper.specs.Blanks.{batches_for}
use Rattle.result_keeper.specs.Keep.{KeeperData}
use Rattle.shard_merge.specs.Union.{BoardData}

-- what the other board has at a place that is blank here
abbrev pub gain : Option Outcome → Option Outcome → Option Outcome
gain None other = other
gain (Some outcome) other = None

-- a number in front of others, where there is an outcome
abbrev pub number_if : Option Outcome → ℕ → List ℕ → List ℕ
number_if None number numbers = numbers
number_if (Some outcome) number numbers = number ∷ numbers

-- the numbers of the jobs that the other board has and this one lacks, ascending, where the first place has this number
abbrev pub gained_from : ℕ → BoardData → BoardData → List ℕ
gained_from number [] other = []
gained_from number (place ∷ board) [] = []
gained_from number (place ∷ board) (p ∷ other) = number_if (gain place p) number (gained_from (number + 1) board other)

-- those from a number on
abbrev pub gained_behind : ℕ → BoardData → BoardData → List ℕ
gained_behind from board other = gained_from from (drop from board) (drop from other)

abbrev pub gained : BoardData → BoardData → List ℕ
gained board other = gained_from 0 board other

-- the outcome that a board has for the job of a site, and no effect where it has none
abbrev pub outcome_on : List Job → BoardData → Site → Outcome
outcome_on [] board site = NoEffect
outcome_on (job ∷ list) [] site = NoEffect
outcome_on (job ∷ list) (place ∷ board) site =
    if same_site (site_of job) site then unwrap_or place NoEffect else outcome_on list board site

-- the rows of `count` jobs from a number on that a keeper's board gains, with the outcomes of the other board
abbrev pub page_gained : KeeperData → BoardData → ℕ → ℕ → List Row
page_gained keeper other from count =
    rows_of (outcome_on keeper.list other) keeper.list (take count (gained_behind from keeper.board other))

-- the rows of all jobs from a number on that it gains, in batches of a page
abbrev pub batches_behind : KeeperData → BoardData → ℕ → List (List Row)
batches_behind keeper other from =
    batches_for (outcome_on keeper.list other) keeper.list keeper.page (gained_behind from keeper.board other)

-- the rows of all that it gains
abbrev pub batches_gained : KeeperData → BoardData → List (List Row)
batches_gained keeper other = batches_for (outcome_on keeper.list other) keeper.list keeper.page (gained keeper.board other)
