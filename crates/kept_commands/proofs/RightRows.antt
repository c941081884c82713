-- The rows of a file that gives a board are right exactly if the outcomes on the board are.
use Rattle.std.proofs.Common.{All, ◌≡◌, ℕ, ◌==◌, Bool, true, false, not, ◌&&◌, ◌||◌, if◌then◌else◌, List, [], ◌∷◌, ◌++◌, map, Option, Some, None, Ok, refl, sym, ◌∙◌, ap, subst, append_assoc}
use Rattle.std.specs.Prelude.{slice_get}
use Rattle.std.specs.List.{list_all}
use Rattle.std.specs.Option.{option_map}
use Rattle.std.proofs.lemmas.List.Elements.{All-nil, All-cons, All-head, All-tail}
use Rattle.std.proofs.lemmas.Option.{slice_get-map}
use Rattle.fs_model.specs.declared.sites.Site.{Site}
use Rattle.fs_model.specs.declared.sites.Job.{Job}
use Rattle.fs_model.specs.declared.outcomes.Outcome.{Outcome}
use Rattle.fs_model.specs.Card.{card}
use Rattle.fs_model.specs.Case.{CaseData}
use Rattle.fs_model.specs.Job.{HasOutcomes, jobs_in, site_of}
use Rattle.fs_model.specs.Outcome.{number_of, outcome, same_outcome}
use Rattle.fs_model.specs.Site.{same_site}
use Rattle.fs_model.specs.Verdict.{IsRight}
use Rattle.fs_model.proofs.EachOutcome.{each_passes, same_then}
use Rattle.keep_format.specs.declared.fault.FormatFault.{FormatFault}
use Rattle.keep_format.specs.declared.rows.KeptRow.{KeptRow}
use Rattle.keep_format.specs.KeepFile.{FileRow, KeptFile, agree, apart, byte_of, conflict_at, conflict_behind, disagree, file_row_of, is_trap, recorded, same_name}
use Rattle.keep_format.proofs.Agreeing.{agreeing_data, recorded_if_kept}
use Rattle.result_keeper.specs.Acceptance.{accept, board_of, names_job, outcome_in, outcome_rows, row_if, site_named}
use Rattle.result_keeper.proofs.Files.{file_kept}
use Rattle.result_keeper.proofs.Filing.{named_job, site_itself}
use Rattle.result_keeper.proofs.Opened.{WasOpened, WasEmpty, WasWhole, was_accepted}
use Rattle.result_keeper.proofs.Right.{right_rows}
use Rattle.result_keeper.proofs.Sound.{blank_right, board_at, kept_part, named_if, names}
use Rattle.kept_commands.specs.Keep.{GivesRight, HasRightOutcome, HasRightRows, RowsAndBoards}

abbrev site_at : KeptRow → Site
site_at row = site_named (file_row_of row)

-- ---- from rows to a board

written_right : (c : CaseData) (rows : List FileRow) → All (HasRightOutcome c) rows → All (IsRight c) (outcome_rows rows)
written_right c [] right = All-nil (IsRight c)
written_right c (row ∷ rows) right =
    by row.outcome (All-head (HasRightOutcome c) row rows right) (written_right c rows (All-tail (HasRightOutcome c) row rows right))
  where
    by : (p : Option Outcome) → ((o : Outcome) → p ≡ Some o → o ≡ outcome c (site_named row)) → All (IsRight c) (outcome_rows rows) → All (IsRight c) (row_if row p (outcome_rows rows))
    by None its rest = rest
    by (Some o) its rest = All-cons (IsRight c) (record { cycle = row.cycle; cell = row.cell; bit = row.bit; outcome = o }) (outcome_rows rows) (its o refl) rest

pub rows_give_right : (c : CaseData) (file : List ℕ) → HasRightRows file c → GivesRight file c
rows_give_right c file right board is = by (was_accepted file c board is)
  where
    by : WasOpened (card c) (jobs_in c) file board → HasOutcomes (outcome c) (jobs_in c) board
    by (WasEmpty none blank) = blank_right c board blank
    by (WasWhole rows gate whole fine board_is) =
        let found : KeptFile = record { card = card c; rows = map file_row_of rows } in
        let all : All (HasRightOutcome c) (map file_row_of rows) = right found (recorded_if_kept file found (file_kept file (card c) rows gate whole)) refl in
        subst (HasOutcomes (outcome c) (jobs_in c)) (sym board_is)
        (λ i job o there place.
        right_rows c (outcome_rows (map file_row_of rows)) (site_of job) o (written_right c (map file_row_of rows) all)
        (board_at (jobs_in c) (outcome_rows (map file_row_of rows)) i job o there place))

-- ---- rows of one name that agree have one outcome

not_true : (t : Bool) → not t ≡ true → t ≡ false
not_true true is = absurd (cc)
not_true false is = refl

or_true : (t : Bool) → (t || false) ≡ true → t ≡ true
or_true true is = refl
or_true false is = absurd (cc)

-- no outcome has the number of an old row
not_old : (o : Outcome) → (number_of o == 3) ≡ false
not_old o = not_true (number_of o == 3) (each_passes (λ (x : Outcome). not (number_of x == 3)) refl o)

one_outcome : (p o : Outcome) → agree (number_of p) (number_of o) ≡ true → p ≡ o
unfolding same_outcome
one_outcome p o agrees =
    let first = ap (λ (t : Bool). (number_of p == number_of o) || ((t && is_trap (number_of o)) || ((number_of o == 3) && is_trap (number_of p)))) (not_old p) in
    let second = ap (λ (t : Bool). (number_of p == number_of o) || (t && is_trap (number_of p))) (not_old o) in
    same_then p o (or_true (number_of p == number_of o) (sym (first ∙ second) ∙ agrees))

named_alike : (a b : KeptRow) → same_site (site_at a) (site_at b) ≡ same_name a b
unfolding same_site
named_alike a b = refl

agree_if : (t u : Bool) → t ≡ true → (t && not u) ≡ false → u ≡ true
agree_if true true is fine = refl
agree_if true false is fine = absurd (cc)
agree_if false u is fine = absurd (cc)

agreeing_outcomes : (a b : KeptRow) (p o : Outcome) → a.outcome ≡ Some p → b.outcome ≡ Some o → same_site (site_at a) (site_at b) ≡ true → disagree a b ≡ false → p ≡ o
agreeing_outcomes a b p o a_has b_has same fine =
    let agrees = agree_if (same_name a b) (agree (byte_of a.outcome) (byte_of b.outcome)) (sym (named_alike a b) ∙ same) fine in
    one_outcome p o
    (sym (ap (λ (x : Option Outcome). agree (byte_of x) (byte_of b.outcome)) a_has ∙ ap (λ (x : Option Outcome). agree (number_of p) (byte_of x)) b_has) ∙ agrees)

-- ---- the outcome of a row is the first of its site

none_apart : (t : Bool) (at : ℕ) (rest : Option ℕ) → (if t then Some at else rest) ≡ None → (t ≡ false) × (rest ≡ None)
none_apart true at rest is = absurd (cc)
none_apart false at rest is = (refl, is)

first_of_site : (before : List KeptRow) (row : KeptRow) (rows : List KeptRow) (o : Outcome) → apart before row ≡ None → row.outcome ≡ Some o
    → outcome_in (outcome_rows (map file_row_of (before ++ row ∷ rows))) (site_at row) ≡ Some o
first_of_site [] row rows o none has =
    let rest = outcome_rows (map file_row_of rows) in
    ap (λ (p : Option Outcome). outcome_in (row_if (file_row_of row) p rest) (site_at row)) has
    ∙ ap (λ (t : Bool). if t then Some o else outcome_in rest (site_at row)) (site_itself (site_at row))
first_of_site (b ∷ before) row rows o none has =
    let parts = none_apart (disagree b row) b.at (apart before row) none in
    by b.outcome refl parts.0 (first_of_site before row rows o parts.1 has)
  where
    rest : Option Outcome
    rest = outcome_in (outcome_rows (map file_row_of (before ++ row ∷ rows))) (site_at row)

    with_site : (p : Outcome) → b.outcome ≡ Some p → disagree b row ≡ false → (t : Bool) → same_site (site_at b) (site_at row) ≡ t → rest ≡ Some o → (if t then Some p else rest) ≡ Some o
    with_site p its fine true same is = ap (λ (x : Outcome). Some x) (agreeing_outcomes b row p o its has same fine)
    with_site p its fine false same is = is

    by : (p : Option Outcome) → b.outcome ≡ p → disagree b row ≡ false → rest ≡ Some o → outcome_in (row_if (file_row_of b) p (outcome_rows (map file_row_of (before ++ row ∷ rows)))) (site_at row) ≡ Some o
    by None its fine is = is
    by (Some p) its fine is = with_site p its fine (same_site (site_at b) (site_at row)) refl is

-- ---- from a board to rows

none_at : (found : Option ℕ) (at : ℕ) (rest : Option FormatFault) → conflict_at found at rest ≡ None → (found ≡ None) × (rest ≡ None)
none_at None at rest is = (refl, is)
none_at (Some first) at rest is = absurd (cc)

both_true : (a b : Bool) → (a && b) ≡ true → (a ≡ true) × (b ≡ true)
both_true true b is = (refl, is)
both_true false b is = absurd (cc)

-- Rows that agree and name jobs are right, if the first outcomes of the jobs' sites are.
each_right : (c : CaseData) (all before rows : List KeptRow) → before ++ rows ≡ all → conflict_behind before rows ≡ None → list_all (names (jobs_in c)) (map file_row_of rows) ≡ true
    → ((site : Site) (o : Outcome) → names_job (jobs_in c) site ≡ true → outcome_in (outcome_rows (map file_row_of all)) site ≡ Some o → o ≡ outcome c site)
    → All (HasRightOutcome c) (map file_row_of rows)
each_right c all before [] is none named right = All-nil (HasRightOutcome c)
each_right c all before (row ∷ rows) is none named right =
    let agrees = none_at (apart before row) row.at (conflict_behind (before ++ row ∷ []) rows) none in
    let both = both_true (names (jobs_in c) (file_row_of row)) (list_all (names (jobs_in c)) (map file_row_of rows)) named in
    All-cons (HasRightOutcome c) (file_row_of row) (map file_row_of rows)
    (λ o has.
    right (site_at row) o both.0
    (ap (λ (l : List KeptRow). outcome_in (outcome_rows (map file_row_of l)) (site_at row)) (sym is) ∙ first_of_site before row rows o agrees.0 has))
    (each_right c all (before ++ row ∷ []) rows (append_assoc before (row ∷ []) rows ∙ is) agrees.1 both.1 right)

-- the outcome that a board has for a job's site
on_board : (c : CaseData) (rows : List FileRow) (board : List (Option Outcome)) → board ≡ board_of (jobs_in c) (outcome_rows rows) → HasOutcomes (outcome c) (jobs_in c) board
    → (site : Site) (o : Outcome) → names_job (jobs_in c) site ≡ true → outcome_in (outcome_rows rows) site ≡ Some o → o ≡ outcome c site
on_board c rows board is right site o named has =
    let n = named_job (jobs_in c) site named in
    let outcome_of_job = λ (job : Job). outcome_in (outcome_rows rows) (site_of job) in
    right n.number n.job o n.there
    (ap (λ (b : List (Option Outcome)). slice_get b n.number) is
    ∙ slice_get-map outcome_of_job (jobs_in c) n.number
    ∙ ap (option_map outcome_of_job) n.there
    ∙ ap (λ (x : Option Outcome). Some x) (ap (outcome_in (outcome_rows rows)) n.same ∙ has))
    ∙ ap (outcome c) n.same

board_rows_right : (c : CaseData) (file : List ℕ) (board : List (Option Outcome)) → accept file c ≡ Ok board → HasOutcomes (outcome c) (jobs_in c) board → HasRightRows file c
board_rows_right c file board is right found records same = by (was_accepted file c board is)
  where
    empty_records : recorded [] ≡ Ok found → All (HasRightOutcome c) found.rows
    empty_records e = absurd (cc)

    by : WasOpened (card c) (jobs_in c) file board → All (HasRightOutcome c) found.rows
    by (WasEmpty none blank) = empty_records (sym (ap recorded none) ∙ records)
    by (WasWhole rows gate whole fine board_is) =
        let kept_rows : KeptFile = record { card = card c; rows = map file_row_of rows } in
        subst (All (HasRightOutcome c)) (kept_part (λ (k : KeptFile). k.rows) (sym (recorded_if_kept file kept_rows (file_kept file (card c) rows gate whole)) ∙ records))
        (each_right c rows [] rows refl (agreeing_data file _ whole).1 (named_if (jobs_in c) rows fine) (on_board c (map file_row_of rows) board board_is right))

pub rows_and_boards : RowsAndBoards
rows_and_boards c file board is = ((λ right. rows_give_right c file right board is), board_rows_right c file board is)
