-- Jobs that are blank on a board, chosen by their numbers, and the batches of their rows.
use Rattle.std.specs.Prelude.{◌≡◌, ℕ, ◌<◌, All, Option, Some, None, List, length, map, slice_get}
use Rattle.std.specs.List.{AllPairs}
use Rattle.fs_model.specs.declared.sites.Site.{Site}
use Rattle.fs_model.specs.declared.sites.Job.{Job}
use Rattle.fs_model.specs.declared.outcomes.Outcome.{Outcome}
use Rattle.fs_model.specs.declared.outcomes.Row.{Row}
use Rattle.fs_model.specs.Pages.{pages_within}
use Rattle.def_use.specs.Rows.{rows_of}

-- each number is below all later ones, and its place on the board is blank
pub record AreBlank (board : List (Option Outcome)) (numbers : List ℕ) : Type 0 where
  pub ascending : AllPairs (λ m n. m < n) numbers
  pub blank : All (λ n. slice_get board n ≡ Some None) numbers

-- for each page of these numbers the rows of its jobs
abbrev pub batches_for : (Site → Outcome) → List Job → ℕ → List ℕ → List (List Row)
batches_for outcomes list page numbers = map (rows_of outcomes list) (pages_within (length numbers) page numbers)
