-- The lines of the jobs from a number on.
use Rattle.std.proofs.Common.{◌≡◌, ℕ, zero, suc, ◌+◌, ◌<◌, ◌≤◌, true, false, List, [], ◌∷◌, ◌++◌, Option, Some, None, length, drop, refl, sym, ap, ◌∙◌, arith, append_assoc, append-nil}
use Rattle.std.specs.Prelude.{slice_get, zip}
use Rattle.std.specs.List.{flat_map}
use Rattle.std.proofs.lemmas.Grind.{flat_map-append}
use Rattle.fs_model.specs.declared.outcomes.Outcome.{Outcome}
use Rattle.fs_model.specs.declared.sites.Job.{Job}
use Rattle.fs_model.specs.Case.{CaseData}
use Rattle.fs_model.specs.Job.{jobs_in}
use Rattle.def_use.specs.Board.{place_at}
use Rattle.run_answers.specs.Line.{answer_line}
use Rattle.answer_pages.specs.declared.worker.Claim.{Claim}
use Rattle.answer_pages.specs.Text.{chosen_line, is_place_asked, row_line, lines_behind}
use Rattle.answer_pages.specs.Workers.{share_text}

-- the pairs from a place on
drop_zip : {X Y : Type 0} (xs : List X) (ys : List Y) (i : ℕ) (x : X) (y : Y) → slice_get xs i ≡ Some x → slice_get ys i ≡ Some y → drop i (zip xs ys) ≡ (x, y) ∷ drop (i + 1) (zip xs ys)
drop_zip [] ys i x y at on = absurd cc
drop_zip (a ∷ xs) [] i x y at on = absurd cc
drop_zip (a ∷ xs) (b ∷ ys) zero x y at on =
    let p : a ≡ x = cc in
    let q : b ≡ y = cc in
    rw (p, q) refl
drop_zip (a ∷ xs) (b ∷ ys) (suc i) x y at on = let e : suc i + 1 ≡ suc (i + 1) = omega arith in rw e (drop_zip xs ys i x y at on)

-- there are no pairs past the shorter list
drop_zip_end : {X Y : Type 0} (xs : List X) (ys : List Y) (n : ℕ) → length ys ≤ n → drop n (zip xs ys) ≡ []
drop_zip_end [] ys n all = by n
  where
    by : {Z : Type 0} (n : ℕ) → drop n (let none : List Z = [] in none) ≡ []
    by zero = refl
    by (suc n) = refl
drop_zip_end (a ∷ xs) [] zero all = refl
drop_zip_end (a ∷ xs) [] (suc n) all = refl
drop_zip_end (a ∷ xs) (b ∷ ys) zero all = absurd (omega arith)
drop_zip_end (a ∷ xs) (b ∷ ys) (suc n) all = drop_zip_end xs ys n (omega arith)

module _ (c : CaseData) (board : List (Option Outcome)) (chosen : List Outcome) where
  -- the line of the next job is before those of the others
  pub text_next : (i : ℕ) (job : Job) (place : Option Outcome) → slice_get (jobs_in c) i ≡ Some job → slice_get board i ≡ Some place
      → lines_behind c board chosen i ≡ chosen_line c chosen job place ++ lines_behind c board chosen (i + 1)
  text_next i job place at on = ap (flat_map (row_line c chosen)) (drop_zip (jobs_in c) board i job place at on)

  -- and there is no line after the last one
  pub text_end : (n : ℕ) → length board ≤ n → lines_behind c board chosen n ≡ []
  text_end n all = ap (flat_map (row_line c chosen)) (drop_zip_end (jobs_in c) board n all)

  -- a line that is not asked for
  not_chosen : (job : Job) (place : Option Outcome) → is_place_asked chosen place ≡ false → chosen_line c chosen job place ≡ []
  not_chosen job None other = refl
  not_chosen job (Some kept) other = rw other refl

  line_asked : (job : Job) (place : Option Outcome) → is_place_asked chosen place ≡ true → chosen_line c chosen job place ≡ answer_line c job
  line_asked job None asked = absurd cc
  line_asked job (Some kept) asked = rw asked refl

  -- the next job is not asked for
  pub text_passed : (front : List ℕ) (from i : ℕ) (job : Job) (place : Option Outcome) → slice_get (jobs_in c) i ≡ Some job → slice_get board i ≡ Some place → is_place_asked chosen place ≡ false
      → lines_behind c board chosen from ≡ front ++ lines_behind c board chosen i → lines_behind c board chosen from ≡ front ++ lines_behind c board chosen (i + 1)
  text_passed front from i job place at on other h =
      h ∙ ap (λ (x : List ℕ). front ++ x) (text_next i job place at on ∙ ap (λ (x : List ℕ). x ++ lines_behind c board chosen (i + 1)) (not_chosen job place other))

  -- or it is, and is taken
  pub text_taken : (claims : List Claim) (from i number : ℕ) (job : Job) (place : Option Outcome) → slice_get (jobs_in c) i ≡ Some job → slice_get board i ≡ Some place → is_place_asked chosen place ≡ true
      → lines_behind c board chosen from ≡ share_text c claims ++ lines_behind c board chosen i
      → lines_behind c board chosen from ≡ share_text c (claims ++ record { number = number; job = job } ∷ []) ++ lines_behind c board chosen (i + 1)
  text_taken claims from i number job place at on asked h =
      let rest = lines_behind c board chosen (i + 1) in
      let line = answer_line c job in
      let claim : Claim = record { number = number; job = job } in
      let more : share_text c (claims ++ claim ∷ []) ≡ share_text c claims ++ line =
      flat_map-append (λ (x : Claim). answer_line c x.job) claims (claim ∷ []) ∙ ap (λ (x : List ℕ). share_text c claims ++ x) (append-nil line) in
      h ∙ ap (λ (x : List ℕ). share_text c claims ++ x) (text_next i job place at on ∙ ap (λ (x : List ℕ). x ++ rest) (line_asked job place asked))
      ∙ sym (append_assoc (share_text c claims) line rest) ∙ ap (λ (x : List ℕ). x ++ rest) (sym more)

-- there is an element at each place of a list
pub some_at : {X : Type 0} (xs : List X) (i : ℕ) → i < length xs → (x : X) × (slice_get xs i ≡ Some x)
some_at [] i low = absurd (omega arith)
some_at (x ∷ xs) zero low = (x, refl)
some_at (x ∷ xs) (suc i) low = some_at xs i (omega arith)

-- the place of a board
pub place_is : (board : List (Option Outcome)) (i : ℕ) → i < length board → slice_get board i ≡ Some (place_at board i)
place_is [] i low = absurd (omega arith)
place_is (x ∷ board) zero low = refl
place_is (x ∷ board) (suc i) low = place_is board i (omega arith)
