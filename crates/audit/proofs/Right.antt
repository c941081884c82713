-- Boards on which no outcome is wrong.
use Rattle.std.proofs.Common.{◌≡◌, ℕ, zero, suc, ◌+◌, cond, not, Bool, true, false, List, [], ◌∷◌, Option, Some, None, refl, sym, ap, ◌∙◌, arith}
use Rattle.std.specs.Prelude.{count_by, slice_get, zip}
use Rattle.std.specs.List.{flat_map}
use Rattle.std.proofs.lemmas.List.Sums.{sum_by-cons}
use Rattle.fs_model.specs.declared.sites.Job.{Job}
use Rattle.fs_model.specs.declared.outcomes.Outcome.{Outcome}
use Rattle.fs_model.specs.Case.{CaseData}
use Rattle.fs_model.specs.Job.{HasOutcomes, jobs_in, site_of}
use Rattle.fs_model.specs.Outcome.{outcome, same_outcome}
use Rattle.fs_model.proofs.EachOutcome.{same_as_itself, same_then}
use Rattle.audit.specs.Text.{is_wrong, audit_lines, place_text, wrong_line, wrong_of}

-- ---- two outcomes

same_is : (a b : Outcome) → a ≡ b → same_outcome a b ≡ true
same_is a b is = rw is (same_as_itself b)

differs : (a b : Outcome) → (a ≡ b → ⊥) → same_outcome a b ≡ false
differs a b other = by (same_outcome a b) refl
  where
    by : (same : Bool) → same_outcome a b ≡ same → same ≡ false
    by true is = absurd (other (same_then a b is))
    by false is = refl

-- ---- a place whose outcome is right, and one whose is not

module _ (c : CaseData) (job : Job) (place : Option Outcome) (kept own : Outcome) (is : place ≡ Some kept) (own_is : own ≡ outcome c (site_of job)) where
  pub right_not_wrong : kept ≡ own → false ≡ is_wrong c job place
  right_not_wrong same = rw (is, same_is kept (outcome c (site_of job)) (same ∙ own_is)) refl

  pub right_no_text : kept ≡ own → place_text c job place ≡ []
  right_no_text same = rw (is, same_is kept (outcome c (site_of job)) (same ∙ own_is)) refl

  pub other_wrong : (kept ≡ own → ⊥) → true ≡ is_wrong c job place
  other_wrong other = rw (is, differs kept (outcome c (site_of job)) (λ same. other (same ∙ sym own_is))) refl

  pub other_text : (kept ≡ own → ⊥) → place_text c job place ≡ wrong_line job kept own
  other_text other = rw (is, differs kept (outcome c (site_of job)) (λ same. other (same ∙ sym own_is)), own_is) refl

-- ---- a board whose outcomes are right

module _ (c : CaseData) where
  right_is : (job : Job) (kept : Outcome) → kept ≡ outcome c (site_of job) → same_outcome kept (outcome c (site_of job)) ≡ true
  right_is job kept is = same_is kept (outcome c (site_of job)) is

  no_lines : (list : List Job) (board : List (Option Outcome)) → HasOutcomes (outcome c) list board
      → flat_map (λ (row : Job × Option Outcome). place_text c row.0 row.1) (zip list board) ≡ []
  no_lines [] board right = refl
  no_lines (job ∷ list) [] right = refl
  no_lines (job ∷ list) (None ∷ board) right = no_lines list board (λ i j o a b. right (suc i) j o a b)
  no_lines (job ∷ list) (Some kept ∷ board) right =
      rw (right_is job kept (right 0 job kept refl refl)) (no_lines list board (λ i j o a b. right (suc i) j o a b))

  counted_first : (job : Job) (place : Option Outcome) (list : List Job) (board : List (Option Outcome))
      → count_by (λ (row : Job × Option Outcome). is_wrong c row.0 row.1) (zip (job ∷ list) (place ∷ board))
      ≡ cond (is_wrong c job place) 1 0 + count_by (λ (row : Job × Option Outcome). is_wrong c row.0 row.1) (zip list board)
  counted_first job place list board = sum_by-cons (λ (row : Job × Option Outcome). cond (is_wrong c row.0 row.1) 1 0) (job, place) (zip list board)

  none_counted : (list : List Job) (board : List (Option Outcome)) → HasOutcomes (outcome c) list board
      → count_by (λ (row : Job × Option Outcome). is_wrong c row.0 row.1) (zip list board) ≡ 0
  none_counted [] board right = refl
  none_counted (job ∷ list) [] right = refl
  none_counted (job ∷ list) (None ∷ board) right =
      let first = counted_first job None list board in
      let rest = none_counted list board (λ i j o a b. right (suc i) j o a b) in
      omega (arith, first, rest)
  none_counted (job ∷ list) (Some kept ∷ board) right =
      counted_first job (Some kept) list board
      ∙ both (is_wrong c job (Some kept)) (count_by (λ (row : Job × Option Outcome). is_wrong c row.0 row.1) (zip list board))
      (ap not (right_is job kept (right 0 job kept refl refl))) (none_counted list board (λ i j o a b. right (suc i) j o a b))
    where
      both : (b : Bool) (n : ℕ) → b ≡ false → n ≡ 0 → cond b 1 0 + n ≡ 0
      both true n is none = absurd (cc)
      both false n is none = omega (arith, none)

  pub right_lines : (board : List (Option Outcome)) → HasOutcomes (outcome c) (jobs_in c) board → audit_lines c board ≡ []
  right_lines board right = no_lines (jobs_in c) board right

  pub right_counted : (board : List (Option Outcome)) → HasOutcomes (outcome c) (jobs_in c) board → wrong_of c board ≡ 0
  right_counted board right = none_counted (jobs_in c) board right

  -- ---- a board on which none is wrong

  not_wrong : (job : Job) (kept : Outcome) → is_wrong c job (Some kept) ≡ false → kept ≡ outcome c (site_of job)
  not_wrong job kept none = same_then kept (outcome c (site_of job)) (by (same_outcome kept (outcome c (site_of job))) none)
    where
      by : (b : Bool) → not b ≡ false → b ≡ true
      by true e = refl
      by false e = absurd (cc)

  first_none : (b : Bool) (n : ℕ) → cond b 1 0 + n ≡ 0 → b ≡ false
  first_none true n e = absurd (omega (arith, e))
  first_none false n e = refl

  rest_none : (b : Bool) (n : ℕ) → cond b 1 0 + n ≡ 0 → n ≡ 0
  rest_none true n e = absurd (omega (arith, e))
  rest_none false n e = omega (arith, e)

  counted_right : (list : List Job) (board : List (Option Outcome)) → count_by (λ (row : Job × Option Outcome). is_wrong c row.0 row.1) (zip list board) ≡ 0
      → (i : ℕ) (job : Job) (o : Outcome) → slice_get list i ≡ Some job → slice_get board i ≡ Some (Some o) → o ≡ outcome c (site_of job)
  counted_right [] board none i job o a b = absurd (cc)
  counted_right (first ∷ list) [] none i job o a b = absurd (cc)
  counted_right (first ∷ list) (None ∷ board) none zero job o a b = absurd (cc)
  counted_right (first ∷ list) (Some kept ∷ board) none zero job o a b =
      let job_is : first ≡ job = cc in
      let kept_is : kept ≡ o = cc in
      sym kept_is ∙ not_wrong first kept (first_none (is_wrong c first (Some kept)) (count_by (λ (row : Job × Option Outcome). is_wrong c row.0 row.1) (zip list board)) (sym (counted_first first (Some kept) list board) ∙ none))
      ∙ ap (λ (j : Job). outcome c (site_of j)) job_is
  counted_right (first ∷ list) (place ∷ board) none (suc i) job o a b =
      counted_right list board (rest_none (is_wrong c first place) (count_by (λ (row : Job × Option Outcome). is_wrong c row.0 row.1) (zip list board)) (sym (counted_first first place list board) ∙ none)) i job o a b

  pub none_wrong : (board : List (Option Outcome)) → wrong_of c board ≡ 0 → HasOutcomes (outcome c) (jobs_in c) board
  none_wrong board none = counted_right (jobs_in c) board none
