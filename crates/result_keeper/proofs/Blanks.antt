-- Jobs that are blank on a board, chosen by their numbers: their rows, and the board with them.
use Rattle.std.proofs.Common.{All, ◌≡◌, ◌≢◌, ℕ, zero, suc, ◌<◌, List, [], ◌∷◌, ◌++◌, length, get_or, Option, Some, None, refl, ap, sym, subst, ◌∙◌, arith}
use Rattle.std.specs.Prelude.{slice_get, slice_set, Contains}
use Rattle.std.specs.List.{AllPairs}
use Rattle.std.proofs.lemmas.Option.{get_or_from_slice_get, slice_get_within}
use Rattle.std.proofs.lemmas.List.Elements.{All-nil, All-cons, All-head, All-tail, All-weaker}
use Rattle.fs_model.specs.declared.sites.Site.{Site}
use Rattle.fs_model.specs.declared.sites.Job.{Job}
use Rattle.fs_model.specs.declared.outcomes.Outcome.{Outcome}
use Rattle.fs_model.specs.declared.outcomes.Row.{Row}
use Rattle.fs_model.specs.Job.{site_of}
use Rattle.def_use.specs.Board.{place_at, put_in}
use Rattle.def_use.specs.Rows.{row_of_job, rows_of}
use Rattle.def_use.proofs.RowLists.{rows_none, rows_one, row_site, job_there}
use Rattle.result_keeper.specs.Boards.{filed, IsBlankJob, AreFileable, IsOnce}
use Rattle.result_keeper.specs.Blanks.{AreBlank}
use Rattle.result_keeper.proofs.Filing.{filed_nothing, filed_put, filed-append, length-filed}

-- ---- ascending numbers

abbrev Ascend : List ℕ → Type 0
Ascend numbers = AllPairs (λ m n. m < n) numbers

ascend_head : (n : ℕ) (ns : List ℕ) → Ascend (n ∷ ns) → All (λ m. n < m) ns
ascend_head n ns up = λ k d lt. up 0 (suc k) d (omega arith) (omega (arith, lt))

ascend_tail : (n : ℕ) (ns : List ℕ) → Ascend (n ∷ ns) → Ascend ns
ascend_tail n ns up = λ i j d lt le. up (suc i) (suc j) d (omega (arith, lt)) (omega (arith, le))

get_front : {X : Type 0} (xs ys : List X) (i : ℕ) (d : X) → i < length xs → get_or (xs ++ ys) i d ≡ get_or xs i d
get_front [] ys i d lt = absurd (omega arith)
get_front (x ∷ xs) ys zero d lt = refl
get_front (x ∷ xs) ys (suc i) d lt = get_front xs ys i d (omega (arith, lt))

All-front : {X : Type 0} (P : X → Type 0) (xs ys : List X) → All P (xs ++ ys) → All P xs
All-front P [] ys all = All-nil P
All-front P (x ∷ xs) ys all = All-cons P x xs (All-head P x (xs ++ ys) all) (All-front P xs ys (All-tail P x (xs ++ ys) all))

All-behind : {X : Type 0} (P : X → Type 0) (xs ys : List X) → All P (xs ++ ys) → All P ys
All-behind P [] ys all = all
All-behind P (x ∷ xs) ys all = All-behind P xs ys (All-tail P x (xs ++ ys) all)

ascend_front : (a b : List ℕ) → Ascend (a ++ b) → Ascend a
ascend_front [] b up = λ i j d lt le. absurd (omega (arith, le))
ascend_front (n ∷ a) b up =
    pairs n a (All-front (λ m. n < m) a b (ascend_head n (a ++ b) up)) (ascend_front a b (ascend_tail n (a ++ b) up))
  where
    pairs : (n : ℕ) (ns : List ℕ) → All (λ m. n < m) ns → Ascend ns → Ascend (n ∷ ns)
    pairs n ns head tail zero zero d lt le = absurd (omega (arith, lt))
    pairs n ns head tail zero (suc j) d lt le = head j d (omega (arith, le))
    pairs n ns head tail (suc i) zero d lt le = absurd (omega (arith, lt))
    pairs n ns head tail (suc i) (suc j) d lt le = tail i j d (omega (arith, lt)) (omega (arith, le))

ascend_behind : (a b : List ℕ) → Ascend (a ++ b) → Ascend b
ascend_behind [] b up = up
ascend_behind (n ∷ a) b up = ascend_behind a b (ascend_tail n (a ++ b) up)

-- none of the later numbers is one of the first
later_apart : (a b : List ℕ) → Ascend (a ++ b) → All (λ m. All (λ n. n ≢ m) a) b
later_apart [] b up = All-weaker (λ m. m ≡ m) (λ m. All (λ n. n ≢ m) []) (λ m e. All-nil (λ n. n ≢ m)) b (λ k d lt. refl)
later_apart (n ∷ a) b up =
    let above = All-behind (λ m. n < m) a b (ascend_head n (a ++ b) up) in
    let rest = later_apart a b (ascend_tail n (a ++ b) up) in
    λ k d lt. All-cons (λ x. x ≢ get_or b k d) n a (λ e. let h = above k d lt in absurd (omega (arith, e, h))) (rest k d lt)

-- ---- a place of a board

get_set : (board : List (Option Outcome)) (n : ℕ) (o : Option Outcome) → n < length board → slice_get (slice_set board n o) n ≡ Some o
get_set [] n o lt = absurd (omega arith)
get_set (place ∷ board) zero o lt = refl
get_set (place ∷ board) (suc n) o lt = get_set board n o (omega (arith, lt))

get_set_other : (board : List (Option Outcome)) (n m : ℕ) (o : Option Outcome) → n ≢ m → slice_get (slice_set board n o) m ≡ slice_get board m
get_set_other [] n m o apart = refl
get_set_other (place ∷ board) zero zero o apart = absurd (apart refl)
get_set_other (place ∷ board) zero (suc m) o apart = refl
get_set_other (place ∷ board) (suc n) zero o apart = refl
get_set_other (place ∷ board) (suc n) (suc m) o apart = get_set_other board n m o (λ e. apart (ap (λ (k : ℕ). suc k) e))

-- the others stay blank
others_blank : (board : List (Option Outcome)) (n : ℕ) (ns : List ℕ) (o : Option Outcome) → AreBlank board (n ∷ ns) → AreBlank (slice_set board n o) ns
others_blank board n ns o are =
    let above = ascend_head n ns are.ascending in
    let blank = All-tail (λ m. slice_get board m ≡ Some None) n ns are.blank in
    record {
      ascending = ascend_tail n ns are.ascending;
      blank = λ k d lt. get_set_other board n (get_or ns k d) o (λ e. let h = above k d lt in absurd (omega (arith, e, h))) ∙ blank k d lt;
    }

-- the first of blank ones are blank
pub first_blank : (a b : List ℕ) (board : List (Option Outcome)) → AreBlank board (a ++ b) → AreBlank board a
first_blank a b board are = record { ascending = ascend_front a b are.ascending; blank = All-front (λ n. slice_get board n ≡ Some None) a b are.blank }

-- ---- their rows

-- These jobs' rows, in order: each job is blank when its turn comes. Then its place has its outcome, and no other place is changed.
pub record AreFilled (outcomes : Site → Outcome) (list : List Job) (board : List (Option Outcome)) (numbers : List ℕ) : Type 0 where
  pub fileable : AreFileable list board (rows_of outcomes list numbers)
  pub has : (m : ℕ) (job : Job) → Contains numbers m → slice_get list m ≡ Some job → slice_get (filed list board (rows_of outcomes list numbers)) m ≡ Some (Some (outcomes (site_of job)))
  pub same : (m : ℕ) → All (λ n. n ≢ m) numbers → slice_get (filed list board (rows_of outcomes list numbers)) m ≡ slice_get board m

module _ (outcomes : Site → Outcome) (list : List Job) (once : IsOnce list) where
  -- the row of one job puts its outcome on its place
  pub file_one : (board : List (Option Outcome)) (n : ℕ) (job : Job) → length board ≡ length list → slice_get board n ≡ Some None → slice_get list n ≡ Some job
      → filed list board (row_of_job outcomes job ∷ []) ≡ slice_set board n (Some (outcomes (site_of job)))
  file_one board n job long blank there =
      let row = row_of_job outcomes job in
      let none : place_at board n ≡ None = get_or_from_slice_get board n None None blank in
      sym (filed_put list board row n job long there (sym (row_site outcomes job)) (λ i other at is. once i n other job at there (is ∙ row_site outcomes job)))
      ∙ ap (λ (p : Option Outcome). put_in board n p row.outcome) none

  no_more : (board : List (Option Outcome)) → length board ≡ length list → filed list board (rows_of outcomes list []) ≡ board
  no_more board long = ap (λ (rows : List Row). filed list board rows) (sym (rows_none outcomes list)) ∙ filed_nothing list board long

  pub blanks_filled : (numbers : List ℕ) (board : List (Option Outcome)) → length board ≡ length list → AreBlank board numbers → AreFilled outcomes list board numbers
  blanks_filled [] board long are = record {
    fileable = rw (← rows_none outcomes list) tt;
    has = λ m job has there. absurd (omega (arith, has.1));
    same = λ m apart. ap (λ (b : List (Option Outcome)). slice_get b m) (no_more board long);
  }
  blanks_filled (n ∷ ns) board long are =
      let blank : slice_get board n ≡ Some None = All-head (λ m. slice_get board m ≡ Some None) n ns are.blank in
      let within = slice_get_within board n None blank in
      let job = job_there list n (omega (arith, within, long)) in
      let row = row_of_job outcomes job.0 in
      let o = outcomes (site_of job.0) in
      let board' = slice_set board n (Some o) in
      let rest = rows_of outcomes list ns in
      let filed_is : filed list board (row ∷ []) ≡ board' = file_one board n job.0 long blank job.1 in
      let long' : length board' ≡ length list = sym (ap length filed_is) ∙ length-filed list board (row ∷ []) long in
      let h = blanks_filled ns board' long' (others_blank board n ns (Some o) are) in
      let rows_are : rows_of outcomes list (n ∷ ns) ≡ row ∷ rest = rows_one outcomes list n ns job.0 job.1 in
      let board_is : filed list board (rows_of outcomes list (n ∷ ns)) ≡ filed list board' rest =
      ap (λ (rows : List Row). filed list board rows) rows_are ∙ sym (filed-append list board (row ∷ []) rest) ∙ ap (λ (b : List (Option Outcome)). filed list b rest) filed_is in
      let here : IsBlankJob list board row = record { number = n; job = job.0; there = job.1; named = sym (row_site outcomes job.0); blank = blank } in
      record {
        fileable = subst (AreFileable list board) (sym rows_are) (here, subst (λ (b : List (Option Outcome)). AreFileable list b rest) (sym filed_is) h.fileable);
        has = λ m other has there.
            ap (λ (b : List (Option Outcome)). slice_get b m) board_is ∙ placed n ns board board' o job.0 within (ascend_head n ns are.ascending) refl h job.1 m other has there;
        same = λ m apart.
            ap (λ (b : List (Option Outcome)). slice_get b m) board_is
            ∙ h.same m (All-tail (λ k. k ≢ m) n ns apart)
            ∙ get_set_other board n m (Some o) (All-head (λ k. k ≢ m) n ns apart);
      }
    where
      placed : (n : ℕ) (ns : List ℕ) (board board' : List (Option Outcome)) (o : Outcome) (job : Job) → n < length board → All (λ m. n < m) ns → board' ≡ slice_set board n (Some (outcomes (site_of job)))
          → AreFilled outcomes list board' ns → slice_get list n ≡ Some job
          → (m : ℕ) (other : Job) → Contains (n ∷ ns) m → slice_get list m ≡ Some other → slice_get (filed list board' (rows_of outcomes list ns)) m ≡ Some (Some (outcomes (site_of other)))
      placed n ns board board' o job within above is h at m other (zero, lt, same) there =
          let job_is : job ≡ other = let e : Some job ≡ Some other = sym at ∙ ap (λ (k : ℕ). slice_get list k) same ∙ there in cc in
          let place : slice_get board' n ≡ Some (Some (outcomes (site_of job))) = ap (λ (b : List (Option Outcome)). slice_get b n) is ∙ get_set board n (Some (outcomes (site_of job))) within in
          h.same m (λ k d less e. let x = above k d less in absurd (omega (arith, x, e, same)))
          ∙ ap (λ (k : ℕ). slice_get board' k) (sym same) ∙ place ∙ ap (λ (j : Job). let p : Option (Option Outcome) = Some (Some (outcomes (site_of j))) in p) job_is
      placed n ns board board' o job within above is h at m other (suc k, lt, same) there = h.has m other (k, omega (arith, lt), same) there

  -- the others are blank when the first have their rows
  pub rest_blank : (a b : List ℕ) (board : List (Option Outcome)) → length board ≡ length list → AreBlank board (a ++ b) → AreBlank (filed list board (rows_of outcomes list a)) b
  rest_blank a b board long are =
      let filled = blanks_filled a board long (first_blank a b board are) in
      let apart = later_apart a b are.ascending in
      let blank = All-behind (λ n. slice_get board n ≡ Some None) a b are.blank in
      record { ascending = ascend_behind a b are.ascending; blank = λ k d lt. filled.same (get_or b k d) (apart k d lt) ∙ blank k d lt }
