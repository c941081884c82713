-- Rows on a board.
use Rattle.std.proofs.Common.{◌≡◌, ℕ, zero, suc, ◌+◌, ◌<◌, Bool, true, false, ◌||◌, if◌then◌else◌, List, [], ◌∷◌, ◌++◌, length, take, drop, get_or, Option, Some, None, refl, sym, ◌∙◌, ap, subst, arith}
use Rattle.std.specs.Prelude.{slice_get, slice_set, replicate, ◌==◌, ◌&&◌}
use Rattle.std.proofs.lemmas.Bool.Decides.{nat_tests}
use Rattle.std.proofs.lemmas.List.{take_more, drop_more}
use Rattle.std.proofs.lemmas.Option.{get_or_from_slice_get}
use Rattle.def_use.proofs.Places.{kept_of-set}
use Rattle.fs_model.specs.declared.sites.Site.{Site}
use Rattle.fs_model.specs.declared.sites.Job.{Job}
use Rattle.fs_model.specs.declared.outcomes.Outcome.{Outcome}
use Rattle.fs_model.specs.declared.outcomes.Row.{Row}
use Rattle.fs_model.specs.Site.{same_site}
use Rattle.fs_model.specs.Job.{site_of}
use Rattle.fs_model.specs.Verdict.{site_of_row}
use Rattle.result_keeper.specs.Acceptance.{outcome_in, board_of, names_job}
use Rattle.def_use.specs.Board.{place_at, put_in, kept_of}
use Rattle.def_use.specs.Firsts.{IsNumberOf}
use Rattle.result_keeper.specs.Boards.{or_else, filed, IsBlankJob, AreFileable, IsOnce}

-- ---- sites

both : (a b : Bool) → (a && b) ≡ true → (a ≡ true) × (b ≡ true)
both true b is = (refl, is)
both false b is = absurd (cc)

same_number : (a b : ℕ) → (a == b) ≡ true → a ≡ b
same_number a b is = grind (arith, nat_tests)

equal_itself : (n : ℕ) → (n == n) ≡ true
equal_itself n = grind (arith, nat_tests)

pub site_same : (a b : Site) → same_site a b ≡ true → a ≡ b
unfolding same_site
site_same a b is =
    let first = both (a.cycle == b.cycle) ((a.cell == b.cell) && (a.bit == b.bit)) is in
    let second = both (a.cell == b.cell) (a.bit == b.bit) first.1 in
    let p = same_number a.cycle b.cycle first.0 in
    let q = same_number a.cell b.cell second.0 in
    let r = same_number a.bit b.bit second.1 in
    ap (λ (n : ℕ). let s : Site = record { cycle = n; cell = a.cell; bit = a.bit } in s) p
    ∙ ap (λ (n : ℕ). let s : Site = record { cycle = b.cycle; cell = n; bit = a.bit } in s) q
    ∙ ap (λ (n : ℕ). let s : Site = record { cycle = b.cycle; cell = b.cell; bit = n } in s) r

pub site_itself : (a : Site) → same_site a a ≡ true
unfolding same_site
site_itself a = rw (equal_itself a.cycle, equal_itself a.cell, equal_itself a.bit) refl

pub sites_apart : (a b : Site) → (a ≡ b → ⊥) → same_site a b ≡ false
sites_apart a b apart = by (same_site a b) refl
  where
    by : (t : Bool) → same_site a b ≡ t → same_site a b ≡ false
    by true is = absurd (apart (site_same a b is))
    by false is = is

-- ---- the number of a job

pub none_named : (list : List Job) (site : Site) → IsNumberOf list site None → names_job list site ≡ false
none_named [] site none = refl
none_named (job ∷ list) site none =
    let apart : same_site site (site_of job) ≡ false = sites_apart site (site_of job) (λ e. none 0 job refl (sym e)) in
    ap (λ (t : Bool). t || names_job list site) apart ∙ none_named list site (λ number other there. none (suc number) other there)

pub one_named : (list : List Job) (site : Site) (number : ℕ) → IsNumberOf list site (Some number) → names_job list site ≡ true
one_named list site number is = named list number is.0 is.1 is.2
  where
    or_true : (a b : Bool) → b ≡ true → (a || b) ≡ true
    or_true true b is = refl
    or_true false b is = is

    true_or : (a b : Bool) → a ≡ true → (a || b) ≡ true
    true_or true b is = refl
    true_or false b is = absurd (cc)

    named : (list : List Job) (number : ℕ) (job : Job) → slice_get list number ≡ Some job → site_of job ≡ site → names_job list site ≡ true
    named [] number job there is = absurd (cc)
    named (other ∷ list) zero job there is =
        let same : other ≡ job = cc in
        true_or (same_site site (site_of other)) (names_job list site)
        (ap (λ (s : Site). same_site site s) (ap site_of same ∙ is) ∙ site_itself site)
    named (other ∷ list) (suc number) job there is = or_true (same_site site (site_of other)) (names_job list site) (named list number job there is)

-- a job of a site that is named
pub record NamedJob (list : List Job) (site : Site) : Type 0 where
  pub number : ℕ
  pub job : Job
  pub there : slice_get list number ≡ Some job
  pub same : site_of job ≡ site

pub named_job : (list : List Job) (site : Site) → names_job list site ≡ true → NamedJob list site
named_job [] site is = absurd (cc)
named_job (job ∷ list) site is = by (same_site site (site_of job)) refl is (named_job list site)
  where
    by : (t : Bool) → same_site site (site_of job) ≡ t → (t || names_job list site) ≡ true → (names_job list site ≡ true → NamedJob list site) → NamedJob (job ∷ list) site
    by true same is rest = record { number = 0; job = job; there = refl; same = sym (site_same site (site_of job) same) }
    by false other is rest = let r = rest is in record { number = suc r.number; job = r.job; there = r.there; same = r.same }

-- ---- one row

or_none : (place : Option Outcome) → or_else place None ≡ place
or_none None = refl
or_none (Some outcome) = refl

pub filed_nothing : (list : List Job) (board : List (Option Outcome)) → length board ≡ length list → filed list board [] ≡ board
filed_nothing [] [] long = refl
filed_nothing [] (place ∷ board) long = absurd (omega arith)
filed_nothing (job ∷ list) [] long = absurd (omega arith)
filed_nothing (job ∷ list) (place ∷ board) long =
    ap (λ (p : Option Outcome). p ∷ filed list board []) (or_none place) ∙ ap (λ (b : List (Option Outcome)). place ∷ b) (filed_nothing list board (omega arith))

no_row : (row : Row) (site : Site) → (site ≡ site_of_row row → ⊥) → outcome_in (row ∷ []) site ≡ None
no_row row site apart = ap (λ (t : Bool). if t then Some row.outcome else None) (sites_apart (site_of_row row) site (λ e. apart (sym e)))

its_row : (row : Row) (site : Site) → site ≡ site_of_row row → outcome_in (row ∷ []) site ≡ Some row.outcome
its_row row site is = ap (λ (t : Bool). if t then Some row.outcome else None) (ap (λ (s : Site). same_site (site_of_row row) s) is ∙ site_itself (site_of_row row))

-- a row of no job of the list
pub filed_apart : (list : List Job) (board : List (Option Outcome)) (row : Row) → length board ≡ length list
    → ((i : ℕ) (job : Job) → slice_get list i ≡ Some job → site_of job ≡ site_of_row row → ⊥) → board ≡ filed list board (row ∷ [])
filed_apart [] [] row long apart = refl
filed_apart [] (place ∷ board) row long apart = absurd (omega arith)
filed_apart (job ∷ list) [] row long apart = absurd (omega arith)
filed_apart (job ∷ list) (place ∷ board) row long apart =
    ap (λ (b : List (Option Outcome)). place ∷ b) (filed_apart list board row (omega arith) (λ i other there. apart (suc i) other there))
    ∙ ap (λ (p : Option Outcome). p ∷ filed list board (row ∷ [])) (sym (ap (or_else place) (no_row row (site_of job) (apart 0 job refl)) ∙ or_none place))

put_first : (place : Option Outcome) (board : List (Option Outcome)) (outcome : Outcome) → put_in (place ∷ board) 0 place outcome ≡ or_else place (Some outcome) ∷ board
put_first None board outcome = refl
put_first (Some kept) board outcome = refl

put_later : (first place : Option Outcome) (board : List (Option Outcome)) (number : ℕ) (outcome : Outcome) → put_in (first ∷ board) (suc number) place outcome ≡ first ∷ put_in board number place outcome
put_later first None board number outcome = refl
put_later first (Some kept) board number outcome = refl

-- a row of one job of the list
pub filed_put : (list : List Job) (board : List (Option Outcome)) (row : Row) (number : ℕ) (job : Job) → length board ≡ length list → slice_get list number ≡ Some job → site_of job ≡ site_of_row row
    → ((i : ℕ) (other : Job) → slice_get list i ≡ Some other → site_of other ≡ site_of_row row → i ≡ number)
    → put_in board number (place_at board number) row.outcome ≡ filed list board (row ∷ [])
filed_put [] board row number job long there is only = absurd (cc)
filed_put (first ∷ list) [] row number job long there is only = absurd (omega arith)
filed_put (first ∷ list) (place ∷ board) row zero job long there is only =
    let same : first ≡ job = cc in
    put_first place board row.outcome
    ∙ ap (λ (o : Option Outcome). or_else place o ∷ board) (sym (its_row row (site_of first) (ap site_of same ∙ is)))
    ∙ ap (λ (b : List (Option Outcome)). or_else place (outcome_in (row ∷ []) (site_of first)) ∷ b)
    (filed_apart list board row (omega arith) (λ i other at other_is. let e = only (suc i) other at other_is in omega (arith, e)))
filed_put (first ∷ list) (place ∷ board) row (suc number) job long there is only =
    put_later place (place_at board number) board number row.outcome
    ∙ ap (λ (b : List (Option Outcome)). place ∷ b)
    (filed_put list board row number job (omega arith) there is (λ i other at other_is. let e = only (suc i) other at other_is in omega (arith, e)))
    ∙ ap (λ (p : Option Outcome). p ∷ filed list board (row ∷ []))
    (sym (ap (or_else place) (no_row row (site_of first) (λ e. let z = only 0 first refl e in absurd (omega (arith, z)))) ∙ or_none place))

pub filed_number : (list : List Job) (board : List (Option Outcome)) (row : Row) (number : ℕ) → length board ≡ length list → IsOnce list → IsNumberOf list (site_of_row row) (Some number)
    → put_in board number (place_at board number) row.outcome ≡ filed list board (row ∷ [])
filed_number list board row number long once is =
    filed_put list board row number is.0 long is.1 is.2 (λ i other there other_is. once i number other is.0 there is.1 (other_is ∙ sym is.2))

pub filed_none : (list : List Job) (board : List (Option Outcome)) (row : Row) → length board ≡ length list → IsNumberOf list (site_of_row row) None → board ≡ filed list board (row ∷ [])
filed_none list board row long none = filed_apart list board row long none

-- ---- many rows

pub length-filed : (list : List Job) (board : List (Option Outcome)) (rows : List Row) → length board ≡ length list → length (filed list board rows) ≡ length list
length-filed [] board rows long = refl
length-filed (job ∷ list) [] rows long = absurd (omega arith)
length-filed (job ∷ list) (place ∷ board) rows long = let h = length-filed list board rows (omega arith) in omega (arith, h)

or_case : (t : Bool) (one : Outcome) (rest other : Option Outcome) → (if t then Some one else or_else rest other) ≡ or_else (if t then Some one else rest) other
or_case true one rest other = refl
or_case false one rest other = refl

pub outcome_in-append : (a b : List Row) (site : Site) → outcome_in (a ++ b) site ≡ or_else (outcome_in a site) (outcome_in b site)
outcome_in-append [] b site = refl
outcome_in-append (row ∷ a) b site =
    ap (λ (o : Option Outcome). if same_site (site_of_row row) site then Some row.outcome else o) (outcome_in-append a b site)
    ∙ or_case (same_site (site_of_row row) site) row.outcome (outcome_in a site) (outcome_in b site)

or_assoc : (a b c : Option Outcome) → or_else (or_else a b) c ≡ or_else a (or_else b c)
or_assoc None b c = refl
or_assoc (Some x) b c = refl

pub filed-append : (list : List Job) (board : List (Option Outcome)) (a b : List Row) → filed list (filed list board a) b ≡ filed list board (a ++ b)
filed-append [] board a b = refl
filed-append (job ∷ list) [] a b = refl
filed-append (job ∷ list) (place ∷ board) a b =
    ap (λ (p : Option Outcome). p ∷ filed list (filed list board a) b) (or_assoc place (outcome_in a (site_of job)) (outcome_in b (site_of job)) ∙ ap (or_else place) (sym (outcome_in-append a b (site_of job))))
    ∙ ap (λ (l : List (Option Outcome)). or_else place (outcome_in (a ++ b) (site_of job)) ∷ l) (filed-append list board a b)

-- the board of rows and more rows
pub board_of-append : (list : List Job) (a b : List Row) → board_of list (a ++ b) ≡ filed list (board_of list a) b
board_of-append [] a b = refl
board_of-append (job ∷ list) a b =
    ap (λ (p : Option Outcome). p ∷ board_of list (a ++ b)) (outcome_in-append a b (site_of job))
    ∙ ap (λ (l : List (Option Outcome)). or_else (outcome_in a (site_of job)) (outcome_in b (site_of job)) ∷ l) (board_of-append list a b)

pub length-board_of : (list : List Job) (rows : List Row) → length (board_of list rows) ≡ length list
length-board_of [] rows = refl
length-board_of (job ∷ list) rows = let h = length-board_of list rows in omega (arith, h)

pub blank_board : (list : List Job) → replicate (length list) None ≡ board_of list []
blank_board [] = refl
blank_board (job ∷ list) = ap (λ (l : List (Option Outcome)). None ∷ l) (blank_board list)

-- ---- rows of jobs that are blank

-- a place that was blank
put_blank : (board : List (Option Outcome)) (number : ℕ) (place : Option Outcome) (outcome : Outcome) → place ≡ None → put_in board number place outcome ≡ slice_set board number (Some outcome)
put_blank board number place outcome blank = ap (λ (p : Option Outcome). put_in board number p outcome) blank

pub kept_more : (list : List Job) (board new : List (Option Outcome)) (row : Row) (number : ℕ) → IsOnce list → IsNumberOf list (site_of_row row) (Some number)
    → new ≡ put_in board number (place_at board number) row.outcome → IsBlankJob list board row → kept_of new ≡ kept_of board + 1
kept_more list board new row number once is put blank =
    let same : blank.number ≡ number = once blank.number number blank.job is.0 blank.there is.1 (blank.named ∙ sym is.2) in
    let free : slice_get board number ≡ Some None = subst (λ (n : ℕ). slice_get board n ≡ Some None) same blank.blank in
    let place : place_at board number ≡ None = get_or_from_slice_get board number None None free in
    ap kept_of (put ∙ put_blank board number (place_at board number) row.outcome place) ∙ kept_of-set board number row.outcome free

fileable_case : (list : List Job) (board new : List (Option Outcome)) (rows rest : List Row) (row : Row) → rows ≡ row ∷ rest → new ≡ filed list board (row ∷ []) → AreFileable list board rows
    → IsBlankJob list board row × AreFileable list new rest
fileable_case list board new rows rest row is put blank =
    let parts : AreFileable list board (row ∷ rest) = subst (AreFileable list board) is blank in
    (parts.0, subst (λ (b : List (Option Outcome)). AreFileable list b rest) (sym put) parts.1)

pub fileable_more : (list : List Job) (board new : List (Option Outcome)) (rows : List Row) (i : ℕ) (d : Row) → i < length rows → new ≡ filed list board (get_or rows i d ∷ []) → AreFileable list board (drop i rows)
    → IsBlankJob list board (get_or rows i d) × AreFileable list new (drop (i + 1) rows)
fileable_more list board new rows i d lt put blank = fileable_case list board new (drop i rows) (drop (i + 1) rows) (get_or rows i d) (drop_more rows i d lt) put blank

-- ---- the loops

module _ (list : List Job) (start now new : List (Option Outcome)) where
  pub filed_more : (rows : List Row) (i : ℕ) (d : Row) → i < length rows → now ≡ filed list start (take i rows) → new ≡ filed list now (get_or rows i d ∷ []) → new ≡ filed list start (take (i + 1) rows)
  filed_more rows i d lt so_far more =
      more
      ∙ ap (λ (b : List (Option Outcome)). filed list b (get_or rows i d ∷ [])) so_far
      ∙ filed-append list start (take i rows) (get_or rows i d ∷ [])
      ∙ ap (λ (l : List Row). filed list start l) (sym (take_more rows i d lt))
