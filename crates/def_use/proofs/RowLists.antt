-- The rows of several jobs, one after the other.
use Rattle.std.proofs.Common.{All, ◌≡◌, ℕ, zero, suc, ◌+◌, ◌<◌, ◌≤◌, List, [], ◌∷◌, ◌++◌, length, get_or, take, Option, Some, None, refl, sym, ap, ◌∙◌, arith}
use Rattle.std.specs.Prelude.{slice_get}
use Rattle.std.proofs.lemmas.List.Elements.{All-nil, All-cons, All-head, All-tail}
use Rattle.std.proofs.lemmas.List.{take_more, length-take-le}
use Rattle.fs_model.specs.declared.sites.Site.{Site}
use Rattle.fs_model.specs.declared.sites.Job.{Job}
use Rattle.fs_model.specs.declared.outcomes.Outcome.{Outcome}
use Rattle.fs_model.specs.declared.outcomes.Row.{Row}
use Rattle.fs_model.specs.Case.{CaseData}
use Rattle.fs_model.specs.Job.{site_of}
use Rattle.fs_model.specs.Outcome.{outcome}
use Rattle.fs_model.specs.Verdict.{site_of_row, IsRight}
use Rattle.def_use.specs.Rows.{row_of_job, with_row, rows_of}

module _ (outcomes : Site → Outcome) (list : List Job) where
  row-append : (job : Option Job) (xs ys : List Row) → with_row outcomes job (xs ++ ys) ≡ with_row outcomes job xs ++ ys
  row-append None xs ys = refl
  row-append (Some job) xs ys = refl

  pub rows-append : (xs ys : List ℕ) → rows_of outcomes list (xs ++ ys) ≡ rows_of outcomes list xs ++ rows_of outcomes list ys
  unfolding rows_of
  rows-append [] ys = refl
  rows-append (x ∷ xs) ys =
      ap (λ (rows : List Row). with_row outcomes (slice_get list x) rows) (rows-append xs ys)
      ∙ row-append (slice_get list x) (rows_of outcomes list xs) (rows_of outcomes list ys)

  pub one_row : (n : ℕ) (job : Job) → slice_get list n ≡ Some job → rows_of outcomes list (n ∷ []) ≡ row_of_job outcomes job ∷ []
  unfolding rows_of
  one_row n job at = rw at refl

  -- the row of a job in front of the others
  pub rows_one : (n : ℕ) (numbers : List ℕ) (job : Job) → slice_get list n ≡ Some job → rows_of outcomes list (n ∷ numbers) ≡ row_of_job outcomes job ∷ rows_of outcomes list numbers
  unfolding rows_of
  rows_one n numbers job there = ap (λ (j : Option Job). with_row outcomes j (rows_of outcomes list numbers)) there

  row_few : (job : Option Job) (xs : List Row) → length (with_row outcomes job xs) ≤ length xs + 1
  row_few None xs = omega arith
  row_few (Some job) xs = omega arith

  -- there are no more rows than numbers
  pub rows_few : (xs : List ℕ) → length (rows_of outcomes list xs) ≤ length xs
  unfolding rows_of
  rows_few [] = omega arith
  rows_few (x ∷ xs) = omega (arith, row_few (slice_get list x) (rows_of outcomes list xs), rows_few xs)

  pub rows_none : [] ≡ rows_of outcomes list []
  unfolding rows_of
  rows_none = refl

  -- the rows so far are fewer than the numbers
  pub rows_fit : (xs : List ℕ) (i : ℕ) (old : List Row) → i < length xs → old ≡ rows_of outcomes list (take i xs) → length old < length xs
  rows_fit xs i old below is =
      let same = ap (λ (l : List Row). length l) is in
      omega (arith, same, rows_few (take i xs), length-take-le i xs (omega arith), below)

  -- one row more
  pub rows_next : (xs : List ℕ) (i d : ℕ) (old new : List Row) (row : Row) → i < length xs → old ≡ rows_of outcomes list (take i xs)
      → rows_of outcomes list (get_or xs i d ∷ []) ≡ row ∷ [] → new ≡ old ++ row ∷ [] → new ≡ rows_of outcomes list (take (i + 1) xs)
  rows_next xs i d old new row below is one more =
      more ∙ (ap (λ (l : List Row). l ++ row ∷ []) is
      ∙ (ap (λ (l : List Row). rows_of outcomes list (take i xs) ++ l) (sym one)
      ∙ (sym (rows-append (take i xs) (get_or xs i d ∷ [])) ∙ ap (λ (l : List ℕ). rows_of outcomes list l) (sym (take_more xs i d below)))))

-- a job's row has its site
pub row_site : (outcomes : Site → Outcome) (job : Job) → site_of_row (row_of_job outcomes job) ≡ site_of job
unfolding site_of
row_site outcomes job = refl

pub job_there : (list : List Job) (n : ℕ) → n < length list → (job : Job) × (slice_get list n ≡ Some job)
job_there [] n lt = absurd (omega arith)
job_there (job ∷ list) zero lt = (job, refl)
job_there (job ∷ list) (suc n) lt = job_there list n (omega arith)

module _ (outcomes : Site → Outcome) (list : List Job) where
  -- where all are numbers of jobs, there is a row for each
  pub length-rows_of : (numbers : List ℕ) → All (λ n. n < length list) numbers → length (rows_of outcomes list numbers) ≡ length numbers
  length-rows_of [] all = ap length (sym (rows_none outcomes list))
  length-rows_of (n ∷ numbers) all =
      let job = job_there list n (All-head (λ k. k < length list) n numbers all) in
      let h = length-rows_of numbers (All-tail (λ k. k < length list) n numbers all) in
      ap length (rows_one outcomes list n numbers job.0 job.1) ∙ omega (arith, h)

-- rows with the outcomes of a case are right
with_right : (c : CaseData) (job : Option Job) (rows : List Row) → All (IsRight c) rows → All (IsRight c) (with_row (outcome c) job rows)
with_right c None rows all = all
with_right c (Some job) rows all = All-cons (IsRight c) (row_of_job (outcome c) job) rows (ap (outcome c) (sym (row_site (outcome c) job))) all

pub rows_right : (c : CaseData) (list : List Job) (numbers : List ℕ) → All (IsRight c) (rows_of (outcome c) list numbers)
unfolding rows_of
rows_right c list [] = All-nil (IsRight c)
rows_right c list (n ∷ numbers) = with_right c (slice_get list n) (rows_of (outcome c) list numbers) (rows_right c list numbers)
