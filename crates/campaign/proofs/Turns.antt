-- A page of a campaign: the next missing jobs are blank, also those of a portion alone, and with their rows on the board the others are missing.
use Rattle.std.proofs.Common.{All, ◌≡◌, Bool, ℕ, zero, suc, ◌+◌, ◌<◌, ◌≤◌, List, [], ◌∷◌, length, take, drop, Option, Some, None, refl, ap, sym, subst, ◌∙◌, arith, take-append-drop}
use Rattle.std.specs.Prelude.{filter, slice_get, slice_set}
use Rattle.std.specs.List.{AllPairs}
use Rattle.std.proofs.lemmas.Option.{slice_get_within}
use Rattle.std.proofs.lemmas.List.Elements.{All-nil, All-cons, All-filter, All-weaker}
use Rattle.std.proofs.lemmas.List.Kept.{AllPairs-cons, AllPairs-filter}
use Rattle.fs_model.specs.declared.sites.Site.{Site}
use Rattle.fs_model.specs.declared.sites.Job.{Job}
use Rattle.fs_model.specs.declared.outcomes.Outcome.{Outcome}
use Rattle.fs_model.specs.declared.outcomes.Row.{Row}
use Rattle.fs_model.specs.Job.{site_of}
use Rattle.fs_model.specs.Pages.{missing_from, missing}
use Rattle.def_use.specs.Board.{kept_of}
use Rattle.def_use.specs.Rows.{row_of_job, rows_of}
use Rattle.def_use.proofs.Places.{kept_of-set}
use Rattle.def_use.proofs.RowLists.{rows_none, rows_one, job_there}
use Rattle.result_keeper.specs.Blanks.{AreBlank}
use Rattle.result_keeper.specs.Boards.{filed, IsOnce}
use Rattle.result_keeper.proofs.Blanks.{file_one, first_blank}
use Rattle.result_keeper.proofs.Filing.{filed_nothing, filed-append, length-filed}
use Rattle.campaign.proofs.Due.{first_due}
use Rattle.campaign.proofs.Missing.{from_low}

-- ---- the missing ones are blank

abbrev BlankBehind : ℕ → List (Option Outcome) → ℕ → Type 0
BlankBehind at board n = (k : ℕ) × (n ≡ at + k) × (slice_get board k ≡ Some None)

blank_behind : (at : ℕ) (board : List (Option Outcome)) → All (BlankBehind at board) (missing_from at board)
blank_behind at [] = All-nil (BlankBehind at [])
blank_behind at (None ∷ board) =
    All-cons (BlankBehind at (None ∷ board)) at (missing_from (at + 1) board) (0, omega arith, refl)
    (All-weaker (BlankBehind (at + 1) board) (BlankBehind at (None ∷ board)) (λ n is. (suc is.0, (let e = is.1 in omega (arith, e)), is.2)) (missing_from (at + 1) board) (blank_behind (at + 1) board))
blank_behind at (Some o ∷ board) =
    All-weaker (BlankBehind (at + 1) board) (BlankBehind at (Some o ∷ board)) (λ n is. (suc is.0, (let e = is.1 in omega (arith, e)), is.2)) (missing_from (at + 1) board) (blank_behind (at + 1) board)

ascends : (at : ℕ) (board : List (Option Outcome)) → AllPairs (λ m n. m < n) (missing_from at board)
ascends at [] = λ i j d lt le. absurd (omega (arith, le))
ascends at (None ∷ board) =
    AllPairs-cons (λ m n. m < n) at (missing_from (at + 1) board) (All-weaker (λ n. at + 1 ≤ n) (λ n. at < n) (λ n le. omega (arith, le)) (missing_from (at + 1) board) (from_low (at + 1) board)) (ascends (at + 1) board)
ascends at (Some o ∷ board) = ascends (at + 1) board

missing_blank : (board : List (Option Outcome)) → AreBlank board (missing board)
missing_blank board = record {
  ascending = ascends 0 board;
  blank =
      All-weaker (BlankBehind 0 board) (λ n. slice_get board n ≡ Some None)
      (λ n is. let same : is.0 ≡ n = let e = is.1 in omega (arith, e) in subst (λ (k : ℕ). slice_get board k ≡ Some None) same is.2) (missing board) (blank_behind 0 board);
}

-- ---- those that pass a test

module _ (p : ℕ → Bool) where
  due_blank : (board : List (Option Outcome)) → AreBlank board (filter p (missing board))
  due_blank board =
      let are = missing_blank board in
      record {
        ascending = AllPairs-filter (λ m n. m < n) p (missing board) are.ascending;
        blank = All-filter p (λ n. slice_get board n ≡ Some None) (missing board) are.blank;
      }

  -- the first so many of them
  pub first_due_blank : (count : ℕ) (board : List (Option Outcome)) → AreBlank board (take count (filter p (missing board)))
  first_due_blank count board =
      let all = filter p (missing board) in
      first_blank (take count all) (drop count all) board (subst (AreBlank board) (sym (take-append-drop count all)) (due_blank board))

  -- ---- the others are missing

  -- a board with the rows of so many of them: the others are missing, and it has so many outcomes more
  pub record IsThen (old : List (Option Outcome)) (count : ℕ) (ns : List ℕ) (new : List (Option Outcome)) : Type 0 where
    pub left : filter p (missing new) ≡ drop count ns
    pub counted : kept_of new ≡ kept_of old + count

  module _ (outcomes : Site → Outcome) (list : List Job) (once : IsOnce list) where
    due_from_then : (count : ℕ) (board : List (Option Outcome)) (ns : List ℕ) → length board ≡ length list → filter p (missing board) ≡ ns → count ≤ length ns
        → IsThen board count ns (filed list board (rows_of outcomes list (take count ns)))
    due_from_then zero board ns long is le =
        let same : filed list board (rows_of outcomes list []) ≡ board = ap (λ (rows : List Row). filed list board rows) (sym (rows_none outcomes list)) ∙ filed_nothing list board long in
        record {
          left = ap (λ (b : List (Option Outcome)). filter p (missing b)) same ∙ is;
          counted = let e = ap (λ (b : List (Option Outcome)). kept_of b) same in omega (arith, e);
        }
    due_from_then (suc count) board [] long is le = absurd (omega arith)
    due_from_then (suc count) board (n ∷ ns) long is le =
        let first = first_due p board n ns is in
        let job = job_there list n (let h = slice_get_within board n None first.blank in omega (arith, h, long)) in
        let row = row_of_job outcomes job.0 in
        let o = outcomes (site_of job.0) in
        let board' = slice_set board n (Some o) in
        let filed_is : filed list board (row ∷ []) ≡ board' = file_one outcomes list once board n job.0 long first.blank job.1 in
        let long' : length board' ≡ length list = sym (ap length filed_is) ∙ length-filed list board (row ∷ []) long in
        let rest = rows_of outcomes list (take count ns) in
        let more = due_from_then count board' ns long' (first.others o) (omega (arith, le)) in
        let same : filed list board (rows_of outcomes list (n ∷ take count ns)) ≡ filed list board' rest =
        ap (λ (rows : List Row). filed list board rows) (rows_one outcomes list n (take count ns) job.0 job.1)
        ∙ sym (filed-append list board (row ∷ []) rest)
        ∙ ap (λ (b : List (Option Outcome)). filed list b rest) filed_is in
        record {
          left = ap (λ (b : List (Option Outcome)). filter p (missing b)) same ∙ more.left;
          counted = let e = ap (λ (b : List (Option Outcome)). kept_of b) same in let one = kept_of-set board n o first.blank in omega (arith, e, one, more.counted);
        }

    pub due_then : (count : ℕ) (board : List (Option Outcome)) → length board ≡ length list → count ≤ length (filter p (missing board))
        → IsThen board count (filter p (missing board)) (filed list board (rows_of outcomes list (take count (filter p (missing board)))))
    due_then count board long le = due_from_then count board (filter p (missing board)) long refl le
