-- What a list has gained since.
use Rattle.std.proofs.Common.{◌≡◌, ℕ, ◌<◌, ◌≤◌, Bool, List, [], ◌∷◌, ◌++◌, length, drop, sym, ap, ◌∙◌, arith, append_assoc, length-append}
use Rattle.std.proofs.lemmas.List.{append-nil, drop_all, drop-append-le}
use Rattle.fs_model.specs.declared.sites.Site.{Site}
use Rattle.fs_model.specs.declared.sites.Job.{Job}
use Rattle.fs_model.specs.declared.outcomes.Outcome.{Outcome}
use Rattle.fs_model.specs.declared.outcomes.Row.{Row}
use Rattle.fs_model.specs.Case.{CaseData}
use Rattle.experiment.specs.Jobs.{RoseAs}
use Rattle.experiment.proofs.Rises.{as_more}
use Rattle.def_use.specs.Rows.{rows_of}
use Rattle.worker_pool.specs.Steps.{steps_of_numbers}
use Rattle.def_use.proofs.RowLists.{rows-append, rows_few}
use Rattle.worker_pool.proofs.StepLists.{steps-append}

abbrev pub since : List ℕ → List ℕ → List ℕ
since xs ys = drop (length xs) ys

pub since_none : (xs : List ℕ) → since xs xs ≡ []
since_none xs = drop_all (length xs) xs (omega arith)

pub since_same : (xs : List ℕ) → xs ≡ xs ++ since xs xs
since_same xs = sym (ap (λ l. xs ++ l) (since_none xs) ∙ append-nil xs)

longer : (xs ys : List ℕ) → ys ≡ xs ++ since xs ys → length xs ≤ length ys
longer xs ys e = let l = ap (λ (l : List ℕ). length l) e in omega (arith, l, length-append xs (since xs ys))

pub since_more : (xs ys zs : List ℕ) (n : ℕ) → ys ≡ xs ++ since xs ys → zs ≡ ys ++ n ∷ [] → since xs zs ≡ since xs ys ++ n ∷ []
since_more xs ys zs n e new = ap (since xs) new ∙ drop-append-le (length xs) ys (n ∷ []) (longer xs ys e)

pub since_whole : (xs ys zs : List ℕ) (n : ℕ) → ys ≡ xs ++ since xs ys → zs ≡ ys ++ n ∷ [] → zs ≡ xs ++ since xs zs
since_whole xs ys zs n e new =
    new ∙ (ap (λ l. l ++ n ∷ []) e ∙ (append_assoc xs (since xs ys) (n ∷ []) ∙ ap (λ l. xs ++ l) (sym (since_more xs ys zs n e new))))

module _ (outcomes : Site → Outcome) (list : List Job) where
  pub no_rows : (xs : List ℕ) → [] ≡ rows_of outcomes list (since xs xs)
  unfolding rows_of
  no_rows xs = sym (ap (λ l. rows_of outcomes list l) (since_none xs))

  pub rows_since : (xs ys zs : List ℕ) (n : ℕ) (old new : List Row) → ys ≡ xs ++ since xs ys → zs ≡ ys ++ n ∷ []
      → old ≡ rows_of outcomes list (since xs ys) → new ≡ old ++ rows_of outcomes list (n ∷ []) → new ≡ rows_of outcomes list (since xs zs)
  rows_since xs ys zs n old new e gained a b =
      b ∙ (ap (λ l. l ++ rows_of outcomes list (n ∷ [])) a
      ∙ (sym (rows-append outcomes list (since xs ys) (n ∷ [])) ∙ ap (λ l. rows_of outcomes list l) (sym (since_more xs ys zs n e gained))))

module _ (c : CaseData) (spacing : ℕ) (list : List Job) where
  pub no_steps : (xs : List ℕ) → steps_of_numbers c spacing list (since xs xs) ≡ 0
  unfolding steps_of_numbers
  no_steps xs = ap (λ l. steps_of_numbers c spacing list l) (since_none xs)

  pub rose_since : (meets : Bool) (xs ys zs : List ℕ) (n t u v : ℕ) → ys ≡ xs ++ since xs ys → zs ≡ ys ++ n ∷ []
      → RoseAs meets (length (since xs ys)) t (steps_of_numbers c spacing list (since xs ys)) u → RoseAs meets 1 u (steps_of_numbers c spacing list (n ∷ [])) v
      → RoseAs meets (length (since xs zs)) t (steps_of_numbers c spacing list (since xs zs)) v
  rose_since meets xs ys zs n t u v e gained a b =
      let more = since_more xs ys zs n e gained in
      as_more meets (length (since xs ys)) 1 (length (since xs zs)) t (steps_of_numbers c spacing list (since xs ys)) (steps_of_numbers c spacing list (n ∷ [])) (steps_of_numbers c spacing list (since xs zs)) u v a b
      (ap (λ (l : List ℕ). length l) more ∙ length-append (since xs ys) (n ∷ []))
      (ap (λ l. steps_of_numbers c spacing list l) more ∙ steps-append c spacing list (since xs ys) (n ∷ []))

-- there is room for one more row
pub room_left : (outcomes : Site → Outcome) (list : List Job) (xs ys zs page : List ℕ) (n q most : ℕ) (offered : List Row) → ys ≡ xs ++ since xs ys → zs ≡ ys ++ n ∷ []
    → offered ≡ rows_of outcomes list (since xs ys) → length zs ≤ length page → length page ≤ q → q ≤ most → length offered < most
room_left outcomes list xs ys zs page n q most offered e gained is within small fits =
    let a = ap (λ (l : List ℕ). length l) e in
    let b = ap (λ (l : List ℕ). length l) gained in
    let d = ap (λ (l : List Row). length l) is in
    omega (arith, a, b, d, within, small, fits, rows_few outcomes list (since xs ys), length-append xs (since xs ys), length-append ys (n ∷ []))
