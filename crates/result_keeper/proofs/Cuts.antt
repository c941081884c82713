-- Numbers, cut into pages, and the batches of their jobs' rows.
use Rattle.std.proofs.Common.{All, ◌≡◌, ℕ, zero, suc, ◌<◌, ◌≤◌, List, [], ◌∷◌, ◌++◌, map, length, take, drop, refl, ap, sym, ◌∙◌, arith, length-drop, take-append-drop}
use Rattle.std.proofs.lemmas.List.Elements.{All-nil, All-append}
use Rattle.fs_model.specs.declared.sites.Site.{Site}
use Rattle.fs_model.specs.declared.sites.Job.{Job}
use Rattle.fs_model.specs.declared.outcomes.Outcome.{Outcome}
use Rattle.fs_model.specs.declared.outcomes.Row.{Row}
use Rattle.fs_model.specs.Case.{CaseData}
use Rattle.fs_model.specs.Outcome.{outcome}
use Rattle.fs_model.specs.Pages.{pages_within}
use Rattle.fs_model.specs.Verdict.{IsRight}
use Rattle.def_use.specs.Rows.{rows_of}
use Rattle.def_use.proofs.RowLists.{rows_none, rows-append, rows_right}
use Rattle.result_keeper.specs.Batches.{all_rows}
use Rattle.result_keeper.specs.Blanks.{batches_for}

-- as many pages as there are numbers are enough
enough : (p m n : ℕ) (numbers : List ℕ) → 0 < p → length numbers ≤ m → length numbers ≤ n → pages_within m p numbers ≡ pages_within n p numbers
enough p zero zero numbers some a b = refl
enough p zero (suc n) [] some a b = refl
enough p zero (suc n) (x ∷ xs) some a b = absurd (omega arith)
enough p (suc m) zero [] some a b = refl
enough p (suc m) zero (x ∷ xs) some a b = absurd (omega arith)
enough p (suc m) (suc n) [] some a b = refl
enough p (suc m) (suc n) (x ∷ xs) some a b =
    let l = length-drop p (x ∷ xs) in
    ap (λ (r : List (List ℕ)). take p (x ∷ xs) ∷ r) (enough p m n (drop p (x ∷ xs)) some (omega (arith, l)) (omega (arith, l)))

-- the first page, and the others
pub first_page : (p m : ℕ) (numbers : List ℕ) → 0 < p → 0 < length numbers → length numbers ≤ m → pages_within m p numbers ≡ take p numbers ∷ pages_within (length (drop p numbers)) p (drop p numbers)
first_page p m [] some there fits = absurd (omega arith)
first_page p zero (x ∷ xs) some there fits = absurd (omega arith)
first_page p (suc m) (x ∷ xs) some there fits =
    let l = length-drop p (x ∷ xs) in
    ap (λ (r : List (List ℕ)). take p (x ∷ xs) ∷ r) (enough p m (length (drop p (x ∷ xs))) (drop p (x ∷ xs)) some (omega (arith, l)) (omega arith))

module _ (outcomes : Site → Outcome) (list : List Job) (p : ℕ) (some : 0 < p) where
  -- the first batch, and the others
  pub first_batch : (numbers : List ℕ) → 0 < length numbers → batches_for outcomes list p numbers ≡ rows_of outcomes list (take p numbers) ∷ batches_for outcomes list p (drop p numbers)
  first_batch numbers there = ap (map (rows_of outcomes list)) (first_page p (length numbers) numbers some there (omega arith))

  -- all batches are the rows of all numbers
  rows_within : (most : ℕ) (numbers : List ℕ) → length numbers ≤ most → all_rows (map (rows_of outcomes list) (pages_within most p numbers)) ≡ rows_of outcomes list numbers
  rows_within zero [] le = rows_none outcomes list
  rows_within zero (n ∷ ns) le = absurd (omega arith)
  rows_within (suc most) [] le = rows_none outcomes list
  rows_within (suc most) (n ∷ ns) le =
      let l = length-drop p (n ∷ ns) in
      ap (λ (r : List Row). rows_of outcomes list (take p (n ∷ ns)) ++ r) (rows_within most (drop p (n ∷ ns)) (omega (arith, l, le, some)))
      ∙ sym (rows-append outcomes list (take p (n ∷ ns)) (drop p (n ∷ ns)))
      ∙ ap (rows_of outcomes list) (take-append-drop p (n ∷ ns))

  pub all_rows_for : (numbers : List ℕ) → all_rows (batches_for outcomes list p numbers) ≡ rows_of outcomes list numbers
  all_rows_for numbers = rows_within (length numbers) numbers (omega arith)

-- with the outcomes of a case their rows are right
pub batches_right : (c : CaseData) (list : List Job) (p : ℕ) (numbers : List ℕ) → All (IsRight c) (all_rows (batches_for (outcome c) list p numbers))
batches_right c list p numbers = each (pages_within (length numbers) p numbers)
  where
    each : (pages : List (List ℕ)) → All (IsRight c) (all_rows (map (rows_of (outcome c) list) pages))
    each [] = All-nil (IsRight c)
    each (page ∷ pages) = All-append (IsRight c) (rows_of (outcome c) list page) (all_rows (map (rows_of (outcome c) list) pages)) (rows_right c list page) (each pages)
