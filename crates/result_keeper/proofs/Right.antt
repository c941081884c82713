-- Rows that are right: they do not disagree with right old rows of a file, and give right outcomes.
use Rattle.std.proofs.Common.{All, ◌≡◌, ℕ, ◌+◌, Bool, true, false, not, ◌&&◌, ◌||◌, ◌==◌, if◌then◌else◌, List, [], ◌∷◌, ◌++◌, map, Option, Some, None, refl, sym, ◌∙◌, ap, subst, arith, append_assoc}
use Rattle.std.specs.Prelude.{slice_get}
use Rattle.std.specs.Option.{option_map}
use Rattle.std.proofs.lemmas.Bool.Decides.{nat_tests}
use Rattle.std.proofs.lemmas.List.{map-append}
use Rattle.std.proofs.lemmas.List.Elements.{All-nil, All-cons, All-head, All-tail, All-append}
use Rattle.std.proofs.lemmas.Option.{slice_get-map}
use Rattle.fs_model.specs.declared.sites.Site.{Site}
use Rattle.fs_model.specs.declared.sites.Job.{Job}
use Rattle.fs_model.specs.declared.outcomes.Outcome.{Outcome}
use Rattle.fs_model.specs.declared.outcomes.Row.{Row}
use Rattle.fs_model.specs.Case.{CaseData}
use Rattle.fs_model.specs.Site.{same_site}
use Rattle.fs_model.specs.Outcome.{number_of, outcome, same_outcome}
use Rattle.fs_model.specs.Verdict.{site_of_row, IsRight}
use Rattle.fs_model.specs.Job.{site_of, HasOutcomes, jobs_in}
use Rattle.fs_model.proofs.EachOutcome.{each_passes, same_then}
use Rattle.keep_format.specs.declared.rows.KeptRow.{KeptRow}
use Rattle.keep_format.specs.declared.fault.FormatFault.{FormatFault}
use Rattle.keep_format.specs.KeepFile.{FileRow, agree, apart, byte_of, conflict_at, conflict_behind, conflict_in, disagree, is_trap, placed, file_row_of, same_name, written}
use Rattle.result_keeper.specs.Acceptance.{IsRightOld, board_of, names_job, outcome_in, outcome_rows, row_if, site_named, stranger}
use Rattle.result_keeper.specs.Boards.{AreFileable, IsBlankJob, filed, or_else}
use Rattle.result_keeper.proofs.Filing.{named_job, outcome_in-append, site_itself, site_same}
use Rattle.result_keeper.proofs.KeptRows.{board_and_written, outcome_rows-append, rows_and_placed}

-- a row with this outcome is right, or an old one, where its site has that
abbrev pub Says : Outcome → Option Outcome → Type 0
Says o None = is_trap (number_of o) ≡ true
Says o (Some p) = p ≡ o

abbrev pub site_at : KeptRow → Site
site_at row = site_named (file_row_of row)

-- ---- bytes that agree

or_here : (a b : Bool) → (a || (true || b)) ≡ true
or_here true b = refl
or_here false b = refl

or_last : (a b : Bool) → (a || (b || true)) ≡ true
or_last true b = refl
or_last false true = refl
or_last false false = refl

equal_itself : (n : ℕ) → (n == n) ≡ true
equal_itself n = grind (arith, nat_tests)

byte_itself : (n : ℕ) → agree n n ≡ true
byte_itself n = ap (λ (t : Bool). t || (((n == 3) && is_trap n) || ((n == 3) && is_trap n))) (equal_itself n)

-- an old row, and a trap
old_first : (n : ℕ) → is_trap n ≡ true → agree 3 n ≡ true
old_first n trap = ap (λ (t : Bool). (3 == n) || (t || ((n == 3) && is_trap 3))) trap ∙ or_here (3 == n) ((n == 3) && is_trap 3)

old_second : (n : ℕ) → is_trap n ≡ true → agree n 3 ≡ true
old_second n trap = ap (λ (t : Bool). (n == 3) || (((n == 3) && is_trap 3) || t)) trap ∙ or_last (n == 3) ((n == 3) && is_trap 3)

said_agree : (o : Outcome) (a b : Option Outcome) → Says o a → Says o b → agree (byte_of a) (byte_of b) ≡ true
said_agree o None None p q = refl
said_agree o None (Some y) p q = ap (λ (z : Outcome). agree 3 (number_of z)) q ∙ old_first (number_of o) p
said_agree o (Some x) None p q = ap (λ (z : Outcome). agree (number_of z) 3) p ∙ old_second (number_of o) q
said_agree o (Some x) (Some y) p q =
    ap (λ (z : Outcome). agree (number_of z) (number_of y)) p ∙ ap (λ (z : Outcome). agree (number_of o) (number_of z)) q ∙ byte_itself (number_of o)

-- ---- right rows of jobs that have no outcome yet do not disagree with old rows that are right

same_test : (a b : KeptRow) → same_site (site_at a) (site_at b) ≡ same_name a b
unfolding same_site
same_test a b = refl

-- no earlier row gives an outcome to the site of this one, so that one of its name is an old one
apart_old : (c : CaseData) (before : List KeptRow) (row : KeptRow) → All (IsRightOld c) (map file_row_of before) → outcome_in (outcome_rows (map file_row_of before)) (site_at row) ≡ None
    → Says (outcome c (site_at row)) row.outcome → apart before row ≡ None
apart_old c [] row old none says = refl
apart_old c (r ∷ before) row old none says =
    let parts = by r.outcome refl none in
    ap (λ (t : Bool). if t then Some r.at else apart before row) parts.0
    ∙ apart_old c before row (All-tail (IsRightOld c) (file_row_of r) (map file_row_of before) old) parts.1 says
  where
    rest : Option Outcome
    rest = outcome_in (outcome_rows (map file_row_of before)) (site_at row)

    trap : r.outcome ≡ None → is_trap (number_of (outcome c (site_at r))) ≡ true
    trap none = All-head (IsRightOld c) (file_row_of r) (map file_row_of before) old none

    with_old : r.outcome ≡ None → (t : Bool) → same_name r row ≡ t → disagree r row ≡ false
    with_old its false other = ap (λ (t : Bool). t && not (agree (byte_of r.outcome) (byte_of row.outcome))) other
    with_old its true same =
        let site : site_at r ≡ site_at row = site_same (site_at r) (site_at row) (same_test r row ∙ same) in
        ap (λ (t : Bool). t && not (agree (byte_of r.outcome) (byte_of row.outcome))) same
        ∙ ap (λ (o : Option Outcome). not (agree (byte_of o) (byte_of row.outcome))) its
        ∙ ap not (said_agree (outcome c (site_at row)) None row.outcome (subst (λ (s : Site). is_trap (number_of (outcome c s)) ≡ true) site (trap its)) says)

    with_other : (x : Outcome) (t : Bool) → same_name r row ≡ t → (if t then Some x else rest) ≡ None → (disagree r row ≡ false) × (rest ≡ None)
    with_other x true same is = absurd (cc)
    with_other x false other is = (ap (λ (t : Bool). t && not (agree (byte_of r.outcome) (byte_of row.outcome))) other, is)

    by : (p : Option Outcome) → r.outcome ≡ p → outcome_in (row_if (file_row_of r) p (outcome_rows (map file_row_of before))) (site_at row) ≡ None → (disagree r row ≡ false) × (rest ≡ None)
    by None its is = (with_old its (same_name r row) refl, is)
    by (Some x) its is = with_other x (same_site (site_at r) (site_at row)) (sym (same_test r row)) is

some_none : {A : Type 0} (x : Option A) → Some x ≡ Some None → x ≡ None
some_none x e = cc

-- the job of a row that is blank on the board of other rows has no outcome among them
blank_none : (list : List Job) (before : List KeptRow) (row : Row) → IsBlankJob list (board_of list (outcome_rows (map file_row_of before))) row
    → outcome_in (outcome_rows (map file_row_of before)) (site_of_row row) ≡ None
blank_none list before row is =
    let rows = outcome_rows (map file_row_of before) in
    ap (outcome_in rows) (sym is.named)
    ∙ some_none (outcome_in rows (site_of is.job))
    (sym (slice_get-map (λ j. outcome_in rows (site_of j)) list is.number ∙ ap (option_map (λ j. outcome_in rows (site_of j))) is.there) ∙ is.blank)

pub none_behind_old : (c : CaseData) (before : List KeptRow) (at : ℕ) (new : List Row) → All (IsRightOld c) (map file_row_of before)
    → AreFileable (jobs_in c) (board_of (jobs_in c) (outcome_rows (map file_row_of before))) new → All (IsRight c) new → conflict_behind before (placed at new) ≡ None
none_behind_old c before at [] old blank right = refl
none_behind_old c before at (row ∷ new) old blank right =
    let first = placed at (row ∷ []) in
    let board_is : filed (jobs_in c) (board_of (jobs_in c) (outcome_rows (map file_row_of before))) (row ∷ []) ≡ board_of (jobs_in c) (outcome_rows (map file_row_of (before ++ first))) =
    sym (ap (λ (l : List FileRow). board_of (jobs_in c) (outcome_rows l)) (rows_and_placed before at (row ∷ [])) ∙ board_and_written (jobs_in c) (map file_row_of before) (row ∷ [])) in
    let old_more : All (IsRightOld c) (map file_row_of (before ++ first)) =
    subst (All (IsRightOld c)) (sym (rows_and_placed before at (row ∷ [])))
    (All-append (IsRightOld c) (map file_row_of before) (map written (row ∷ [])) old (All-cons (IsRightOld c) (written row) [] (λ none. absurd (cc)) (All-nil (IsRightOld c)))) in
    ap (λ (o : Option ℕ). conflict_at o at (conflict_behind (before ++ first) (placed (at + 10) new)))
    (apart_old c before _ old (blank_none (jobs_in c) before row blank.0) (All-head (IsRight c) row new right))
    ∙ none_behind_old c (before ++ first) (at + 10) new old_more (subst (λ (b : List (Option Outcome)). AreFileable (jobs_in c) b new) board_is blank.1) (All-tail (IsRight c) row new right)

-- ---- outcomes that rows give

some_same : {A : Type 0} (a b : A) → Some a ≡ Some b → a ≡ b
some_same a b e = cc

row_case : (c : CaseData) (row : Row) (rest : Option Outcome) (site : Site) (o : Outcome) (t : Bool) → same_site (site_of_row row) site ≡ t → (if t then Some row.outcome else rest) ≡ Some o → IsRight c row
    → (rest ≡ Some o → o ≡ outcome c site) → o ≡ outcome c site
row_case c row rest site o true same is right others =
    sym (some_same row.outcome o is) ∙ right ∙ ap (outcome c) (site_same (site_of_row row) site same)
row_case c row rest site o false same is right others = others is

pub right_rows : (c : CaseData) (rows : List Row) (site : Site) (o : Outcome) → All (IsRight c) rows → outcome_in rows site ≡ Some o → o ≡ outcome c site
right_rows c [] site o right is = absurd (cc)
right_rows c (row ∷ rows) site o right is =
    row_case c row (outcome_in rows site) site o (same_site (site_of_row row) site) refl is (All-head (IsRight c) row rows right)
    (right_rows c rows site o (All-tail (IsRight c) row rows right))
