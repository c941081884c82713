-- A board that is whole.
use Rattle.std.proofs.Common.{All, ◌≡◌, ℕ, zero, suc, ◌+◌, List, [], ◌∷◌, length, Option, Some, None, refl, ap, sym, ◌∙◌, arith}
use Rattle.fs_model.specs.declared.sites.Site.{Site}
use Rattle.fs_model.specs.declared.sites.Job.{Job}
use Rattle.fs_model.specs.declared.outcomes.Outcome.{Outcome}
use Rattle.fs_model.specs.declared.outcomes.Row.{Row}
use Rattle.result_keeper.specs.Acceptance.{outcome_in}
use Rattle.fs_model.specs.Case.{CaseData}
use Rattle.fs_model.specs.Filling.{filled_place, board_filled}
use Rattle.fs_model.specs.Job.{site_of, HasOutcomes}
use Rattle.fs_model.specs.Outcome.{outcome}
use Rattle.fs_model.specs.Pages.{missing_from, missing}
use Rattle.fs_model.specs.Verdict.{IsRight}
use Rattle.result_keeper.specs.Boards.{filed}
use Rattle.result_keeper.proofs.Right.{right_rows}

-- rows that are right and leave no blank fill the blanks
module _ (c : CaseData) (rows : List Row) (right : All (IsRight c) rows) where
  whole_from : (at : ℕ) (list : List Job) (board : List (Option Outcome)) → length board ≡ length list → missing_from at (filed list board rows) ≡ [] → filed list board rows ≡ board_filled (outcome c) list board
  unfolding board_filled
  whole_from at [] board long none = refl
  whole_from at (job ∷ list) [] long none = refl
  whole_from at (job ∷ list) (Some o ∷ board) long none = ap (λ (b : List (Option Outcome)). Some o ∷ b) (whole_from (at + 1) list board (omega arith) none)
  whole_from at (job ∷ list) (None ∷ board) long none = by (outcome_in rows (site_of job)) refl none (whole_from (at + 1) list board (omega arith))
    where
      by : (place : Option Outcome) → outcome_in rows (site_of job) ≡ place → missing_from at (place ∷ filed list board rows) ≡ []
          → (missing_from (at + 1) (filed list board rows) ≡ [] → filed list board rows ≡ board_filled (outcome c) list board) → place ∷ filed list board rows ≡ filled_place (outcome c) job None ∷ board_filled (outcome c) list board
      by None is none more = absurd (cc)
      by (Some o) is none more =
          let o_is : o ≡ outcome c (site_of job) = right_rows c rows (site_of job) o right is in
          ap (λ (x : Outcome). Some x ∷ filed list board rows) o_is
          ∙ ap (λ (b : List (Option Outcome)). Some (outcome c (site_of job)) ∷ b) (more none)

  pub filed_whole : (list : List Job) (board : List (Option Outcome)) → length board ≡ length list → missing (filed list board rows) ≡ [] → filed list board rows ≡ board_filled (outcome c) list board
  filed_whole list board long none = whole_from 0 list board long none

-- what was right before is right filled
pub filled_right : (outcomes : Site → Outcome) (jobs : List Job) (board : List (Option Outcome)) → HasOutcomes outcomes jobs board → HasOutcomes outcomes jobs (board_filled outcomes jobs board)
unfolding board_filled
filled_right outcomes [] board has i job o a b = absurd cc
filled_right outcomes (x ∷ jobs) [] has i job o a b = absurd cc
filled_right outcomes (x ∷ jobs) (None ∷ board) has zero job o a b = let e : x ≡ job = cc in let f : outcomes (site_of x) ≡ o = cc in sym f ∙ ap (λ (j : Job). outcomes (site_of j)) e
filled_right outcomes (x ∷ jobs) (Some p ∷ board) has zero job o a b = has zero job o a b
filled_right outcomes (x ∷ jobs) (place ∷ board) has (suc i) job o a b = filled_right outcomes jobs board (λ k j q c d. has (suc k) j q c d) i job o a b
