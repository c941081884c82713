-- The rows of jobs by a board: one after the other, and by the own runs of their sites.
use Rattle.std.proofs.Common.{◌≡◌, ℕ, zero, suc, ◌+◌, Bool, true, false, List, [], ◌∷◌, ◌++◌, length, map, take, Option, Some, None, refl, ap, ◌∙◌, add-one, arith}
use Rattle.std.specs.Prelude.{nat_lt, slice_get}
use Rattle.fs_model.specs.declared.outcomes.Outcome.{Outcome}
use Rattle.fs_model.specs.declared.sites.Job.{Job}
use Rattle.fs_model.specs.declared.sites.Site.{Site}
use Rattle.fs_model.specs.Job.{HasOutcomes, site_of}
use Rattle.fs_model.specs.Pages.{missing_from}
use Rattle.def_use.specs.Board.{HasOutcomeAt, HasOutcomeBelow}
use Rattle.std.proofs.lemmas.Bool.Decides.{nat_tests}
use Rattle.row_store.specs.declared.rows.ExportRow.{ExportRow}
use Rattle.results_db.specs.Rows.{export_row, rows_by}

row_behind : (jobs : List Job) (board : List (Option Outcome)) (i : ℕ) (job : Job) (o : Outcome) → slice_get jobs i ≡ Some job → slice_get board i ≡ Some (Some o)
    → rows_by (take (suc i) jobs) (take (suc i) board) ≡ rows_by (take i jobs) (take i board) ++ export_row job o ∷ []
unfolding rows_by
row_behind [] board i job o e f = absurd (cc)
row_behind (x ∷ jobs) [] i job o e f = absurd (cc)
row_behind (x ∷ jobs) (None ∷ board) zero job o e f = absurd (cc)
row_behind (x ∷ jobs) (Some q ∷ board) zero job o e f =
    let job_is : x ≡ job = cc in
    let outcome_is : q ≡ o = cc in
    ap (λ (j : Job). export_row j q ∷ []) job_is ∙ ap (λ (p : Outcome). export_row job p ∷ []) outcome_is
row_behind (x ∷ jobs) (None ∷ board) (suc i) job o e f = row_behind jobs board i job o e f
row_behind (x ∷ jobs) (Some q ∷ board) (suc i) job o e f = ap (λ (rows : List ExportRow). export_row x q ∷ rows) (row_behind jobs board i job o e f)

-- one job more
pub row_more : (jobs : List Job) (board : List (Option Outcome)) (i : ℕ) (job : Job) (o : Outcome) → slice_get jobs i ≡ Some job → slice_get board i ≡ Some (Some o)
    → rows_by (take (i + 1) jobs) (take (i + 1) board) ≡ rows_by (take i jobs) (take i board) ++ export_row job o ∷ []
row_more jobs board i job o e f = rw add-one (row_behind jobs board i job o e f)

pub no_rows : (board : List (Option Outcome)) → rows_by [] board ≡ []
unfolding rows_by
no_rows board = refl

-- one outcome more
pub one_more : (board : List (Option Outcome)) (n : ℕ) (o : Outcome) → HasOutcomeBelow board n → slice_get board n ≡ Some (Some o) → HasOutcomeBelow board (n + 1)
one_more board n o whole here i lt = by (nat_lt i n) refl
  where
    by : (b : Bool) → nat_lt i n ≡ b → HasOutcomeAt board i
    by true is = whole i (grind (arith, nat_tests))
    by false is = let same : i ≡ n = grind (arith, nat_tests) in (o, rw same here)

-- a row for each job
pub rows_each : (jobs : List Job) (board : List (Option Outcome)) → length board ≡ length jobs → HasOutcomeBelow board (length board) → length (rows_by jobs board) ≡ length jobs
unfolding rows_by
rows_each [] board long whole = refl
rows_each (job ∷ jobs) [] long whole = absurd (omega arith)
rows_each (job ∷ jobs) (None ∷ board) long whole = let there = (whole 0 (omega arith)).1 in absurd (cc)
rows_each (job ∷ jobs) (Some o ∷ board) long whole = let rest = rows_each jobs board (omega arith) (λ i lt. whole (suc i) (omega (arith, lt))) in omega (arith, rest)

-- where each job has an outcome, and that of its site, these are in its row
pub rows_right : (outcomes : Site → Outcome) (at : ℕ) (jobs : List Job) (board : List (Option Outcome)) → length board ≡ length jobs → HasOutcomes outcomes jobs board → missing_from at board ≡ []
    → rows_by jobs board ≡ map (λ job. export_row job (outcomes (site_of job))) jobs
unfolding rows_by
rows_right outcomes at [] board long right none = refl
rows_right outcomes at (job ∷ jobs) [] long right none = absurd (omega arith)
rows_right outcomes at (job ∷ jobs) (None ∷ board) long right none = absurd (cc)
rows_right outcomes at (job ∷ jobs) (Some o ∷ board) long right none =
    ap (λ (p : Outcome). export_row job p ∷ rows_by jobs board) (right 0 job o refl refl)
    ∙ ap (λ (rows : List ExportRow). export_row job (outcomes (site_of job)) ∷ rows) (rows_right outcomes (at + 1) jobs board (omega arith) (λ i j p e f. right (suc i) j p e f) none)
