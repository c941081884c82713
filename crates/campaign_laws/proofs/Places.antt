-- Which places have an outcome, on a board with the rows of some pages.
use Rattle.std.proofs.Common.{◌≡◌, ℕ, zero, suc, ◌+◌, ◌<◌, ◌==◌, ◌||◌, cond, Bool, true, false, List, [], ◌∷◌, ◌++◌, map, length, Option, Some, None, refl, sym, ap, ◌∙◌, arith, eq-eqb, ne_eqb, append_assoc}
use Rattle.std.specs.Prelude.{filter, slice_get, is_some, if◌then◌else◌}
use Rattle.std.specs.List.{list_any, concat}
use Rattle.std.proofs.lemmas.Bool.{eqb-true}
use Rattle.std.proofs.lemmas.List.Folds.{list_any-append}
use Rattle.fs_model.specs.declared.sites.Site.{Site}
use Rattle.fs_model.specs.declared.sites.Job.{Job}
use Rattle.fs_model.specs.declared.outcomes.Outcome.{Outcome}
use Rattle.fs_model.specs.declared.outcomes.Row.{Row}
use Rattle.fs_model.specs.Site.{same_site}
use Rattle.fs_model.specs.Job.{site_of}
use Rattle.fs_model.specs.Verdict.{site_of_row}
use Rattle.fs_model.specs.Pages.{missing_from, missing}
use Rattle.def_use.specs.Rows.{row_of_job, with_row, rows_of}
use Rattle.def_use.proofs.RowLists.{rows-append, rows_none, row_site, job_there}
use Rattle.result_keeper.specs.Acceptance.{outcome_in}
use Rattle.result_keeper.specs.Batches.{all_rows}
use Rattle.result_keeper.specs.Boards.{filed, IsOnce}
use Rattle.result_keeper.proofs.Filing.{site_same, site_itself, length-filed}
use Rattle.event_core.specs.EventCore.{CoreState, after_all}
use Rattle.event_core.specs.PageEvents.{has_outcome, is_on}
use Rattle.event_core.specs.Stops.{IsStoppedWith, IsStoppedAt, stopped_run, pages_kept}
use Rattle.event_core.proofs.PageRuns.{concat-push, stops_are_runs}
use Rattle.campaign_laws.specs.CoreRuns.{Lead}

-- the number stands in the list
abbrev among : ℕ → List ℕ → Bool
among number numbers = list_any (λ other. other == number) numbers

-- ---- the rows of jobs

module _ (outcomes : Site → Outcome) (list : List Job) where
  pub rows_of_pages : (pages : List (List ℕ)) → all_rows (map (rows_of outcomes list) pages) ≡ rows_of outcomes list (concat pages)
  rows_of_pages [] = rows_none outcomes list
  rows_of_pages (page ∷ pages) =
      ap (λ (rows : List Row). rows_of outcomes list page ++ rows) (rows_of_pages pages) ∙ sym (rows-append outcomes list page (concat pages))

  -- a job has a row exactly where its number is among theirs
  module _ (once : IsOnce list) where
    one_named : (n number : ℕ) (other job : Job) (numbers : List ℕ) (found : Option Outcome) → slice_get list n ≡ Some other → slice_get list number ≡ Some job → is_some found ≡ among number numbers
        → (t : Bool) → same_site (site_of_row (row_of_job outcomes other)) (site_of job) ≡ t → is_some (if t then Some (outcomes (site_of other)) else found) ≡ (n == number || among number numbers)
    one_named n number other job numbers found here there rest true same =
        let e : site_of other ≡ site_of job = sym (row_site outcomes other) ∙ site_same (site_of_row (row_of_job outcomes other)) (site_of job) same in
        sym (ap (λ (b : Bool). b || among number numbers) (eq-eqb n number (once n number other job here there e)))
    one_named n number other job numbers found here there rest false apart =
        let differ : n ≡ number → ⊥ =
        λ e.
        let both : Some other ≡ Some job = sym here ∙ ap (slice_get list) e ∙ there in
        let one : other ≡ job = cc in
        let same : same_site (site_of_row (row_of_job outcomes other)) (site_of job) ≡ true = ap (λ (s : Site). same_site s (site_of job)) (row_site outcomes other ∙ ap site_of one) ∙ site_itself (site_of job) in
        let no : true ≡ false = sym same ∙ apart in
        cc in
        rest ∙ ap (λ (b : Bool). b || among number numbers) (sym (ne_eqb n number (λ e. differ e)))

    rows_named : (numbers : List ℕ) (number : ℕ) (job : Job) → slice_get list number ≡ Some job → is_some (outcome_in (rows_of outcomes list numbers) (site_of job)) ≡ among number numbers
    unfolding rows_of
    rows_named [] number job there = refl
    rows_named (n ∷ numbers) number job there = by (slice_get list n) refl (rows_named numbers number job there)
      where
        by : (place : Option Job) → slice_get list n ≡ place → is_some (outcome_in (rows_of outcomes list numbers) (site_of job)) ≡ among number numbers
            → is_some (outcome_in (with_row outcomes place (rows_of outcomes list numbers)) (site_of job)) ≡ (n == number || among number numbers)
        by None none rest =
            let differ : n ≡ number → ⊥ = λ e. let no : None ≡ Some job = sym none ∙ ap (slice_get list) e ∙ there in absurd (cc) in
            rest ∙ ap (λ (b : Bool). b || among number numbers) (sym (ne_eqb n number (λ e. differ e)))
        by (Some other) here rest =
            one_named n number other job numbers (outcome_in (rows_of outcomes list numbers) (site_of job)) here there rest (same_site (site_of_row (row_of_job outcomes other)) (site_of job)) refl

-- ---- a board with rows

named : List Row → Option Job → Bool
named rows None = false
named rows (Some job) = is_some (outcome_in rows (site_of job))

filed_at : (list : List Job) (board : List (Option Outcome)) (rows : List Row) (i : ℕ) → length board ≡ length list → has_outcome (filed list board rows) i ≡ (has_outcome board i || named rows (slice_get list i))
unfolding named
filed_at [] [] rows i long = refl
filed_at [] (place ∷ board) rows i long = absurd (omega arith)
filed_at (job ∷ list) [] rows i long = absurd (omega arith)
filed_at (job ∷ list) (None ∷ board) rows zero long = refl
filed_at (job ∷ list) (Some o ∷ board) rows zero long = refl
filed_at (job ∷ list) (place ∷ board) rows (suc i) long = filed_at list board rows i (omega arith)

-- a missing job has its place on the board
missing_within : (at : ℕ) (board : List (Option Outcome)) (number : ℕ) → among number (missing_from at board) ≡ true → number < at + length board
missing_within at [] number is = absurd (cc)
missing_within at (None ∷ board) number is = by (at == number) refl is (missing_within (at + 1) board number)
  where
    by : (b : Bool) → (at == number) ≡ b → (b || among number (missing_from (at + 1) board)) ≡ true → (among number (missing_from (at + 1) board) ≡ true → number < at + 1 + length board) → number < at + length (None ∷ board)
    by true same is rest = let e : at ≡ number = eqb-true at number same in omega (arith, e)
    by false other is rest = let h = rest is in omega (arith, h)
missing_within at (Some o ∷ board) number is = let h = missing_within (at + 1) board number is in omega (arith, h)

-- what passes a test stands in the list
among_all : (test : ℕ → Bool) (number : ℕ) (numbers : List ℕ) → among number (filter test numbers) ≡ true → among number numbers ≡ true
among_all test number [] is = is
among_all test number (n ∷ numbers) is = by (test n) is (among_all test number numbers)
  where
    other : (b : Bool) → (among number (filter test numbers) ≡ true → among number numbers ≡ true) → among number (filter test numbers) ≡ true → (b || among number numbers) ≡ true
    other true rest is = refl
    other false rest is = rest is

    first : (b : Bool) → (among number (filter test numbers) ≡ true → among number numbers ≡ true) → (b || among number (filter test numbers)) ≡ true → (b || among number numbers) ≡ true
    first true rest is = refl
    first false rest is = rest is

    by : (t : Bool) → among number (cond t (n ∷ filter test numbers) (filter test numbers)) ≡ true → (among number (filter test numbers) ≡ true → among number numbers ≡ true) → (n == number || among number numbers) ≡ true
    by true is rest = first (n == number) rest is
    by false is rest = other (n == number) rest is

is_on-concat : (pages : List (List ℕ)) (job : ℕ) → is_on pages job ≡ among job (concat pages)
is_on-concat [] job = refl
is_on-concat (page ∷ pages) job = ap (λ (b : Bool). among job page || b) (is_on-concat pages job) ∙ sym (list_any-append (λ other. other == job) page (concat pages))

module _ (outcomes : Site → Outcome) (list : List Job) (once : IsOnce list) (board : List (Option Outcome)) (long : length board ≡ length list) where
  -- the board with the rows of these pages' jobs
  abbrev pub board_then : List (List ℕ) → List (Option Outcome)
  board_then pages = filed list board (rows_of outcomes list (concat pages))

  has_then : (test : ℕ → Bool) (pages : List (List ℕ)) (others : List ℕ) → filter test (missing board) ≡ concat pages ++ others → (i : ℕ) → has_outcome (board_then pages) i ≡ (has_outcome board i || is_on pages i)
  unfolding named
  has_then test pages others front i =
      let numbers = concat pages in
      filed_at list board (rows_of outcomes list numbers) i long ∙ ap (λ (b : Bool). has_outcome board i || b) (by (slice_get list i) refl ∙ sym (is_on-concat pages i))
    where
      beyond : slice_get list i ≡ None → (b : Bool) → among i (concat pages) ≡ b → false ≡ b
      beyond none false is = refl
      beyond none true is =
          let passes : among i (filter test (missing board)) ≡ true = ap (among i) front ∙ list_any-append (λ other. other == i) (concat pages) others ∙ ap (λ (b : Bool). b || among i others) is in
          let there : among i (missing board) ≡ true = among_all test i (missing board) passes in
          let within : i < 0 + length board = missing_within 0 board i there in
          let job = job_there list i (omega (arith, within, long)) in
          let no : Some job.0 ≡ None = sym job.1 ∙ none in
          absurd (cc)

      by : (place : Option Job) → slice_get list i ≡ place → named (rows_of outcomes list (concat pages)) place ≡ among i (concat pages)
      by None none = beyond none (among i (concat pages)) refl
      by (Some job) there = rows_named outcomes list once (concat pages) i job there

  stopped_then : (test : ℕ → Bool) (pages : List (List ℕ)) (others : List ℕ) → filter test (missing board) ≡ concat pages ++ others → (s : CoreState) → IsStoppedWith (length board) (λ job. has_outcome board job || is_on pages job) s → IsStoppedAt (board_then pages) s
  stopped_then test pages others front s is =
      let long' : length (board_then pages) ≡ length list = length-filed list board (rows_of outcomes list (concat pages)) long in
      record {
        same_jobs = is.same_jobs ∙ long ∙ sym long';
        stopped = is.stopped;
        no_queue = is.no_queue;
        no_hands = is.no_hands;
        no_filed = is.no_filed;
        kept = λ job. is.kept job ∙ ap (λ (b : Bool). if b then 1 else 0) (sym (has_then test pages others front job));
      }

  -- a run that stops leads to the board with the rows of the pages that it keeps
  pub leads : (test : ℕ → Bool) (done : List (List ℕ)) (flight others : List ℕ) (whole : Bool) → filter test (missing board) ≡ concat done ++ (flight ++ others) → Lead done flight whole board (board_then (pages_kept done flight whole))
  leads test done flight others whole front worker_of aside_of s takes at =
      let run = stops_are_runs worker_of aside_of test board done flight others whole s takes front at in
      (run.possible, by whole (after_all (stopped_run worker_of aside_of (missing board) done flight whole) s) run.ends)
    where
      by : (whole : Bool) (t : CoreState) → IsStoppedWith (length board) (λ job. has_outcome board job || is_on (pages_kept done flight whole) job) t → IsStoppedAt (board_then (pages_kept done flight whole)) t
      by false t ends = stopped_then test done (flight ++ others) front t ends
      by true t ends =
          stopped_then test (done ++ flight ∷ []) others (front ∙ sym (append_assoc (concat done) flight others) ∙ ap (λ (xs : List ℕ). xs ++ others) (sym (concat-push done flight))) t ends
