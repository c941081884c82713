-- Files that are sound.
use Rattle.std.proofs.Common.{All, ◌≡◌, ◌⊎◌, inl, inr, ⊎_elim, ℕ, Bool, true, false, ◌&&◌, if◌then◌else◌, List, [], ◌∷◌, ◌++◌, map, Option, Some, None, Result, Ok, Err, refl, sym, ◌∙◌, ap, subst}
use Rattle.std.specs.Prelude.{slice_get}
use Rattle.std.specs.Option.{option_map}
use Rattle.std.specs.List.{list_all}
use Rattle.std.proofs.lemmas.List.Elements.{All-nil, All-cons, All-append}
use Rattle.std.proofs.lemmas.Option.{slice_get-map}
use Rattle.fs_outside.specs.Past.{Past, EachImage}
use Rattle.fs_model.specs.declared.sites.Job.{Job}
use Rattle.fs_model.specs.declared.outcomes.Outcome.{Outcome}
use Rattle.fs_model.specs.declared.outcomes.Row.{Row}
use Rattle.keep_format.specs.declared.rows.KeptRow.{KeptRow}
use Rattle.keep_format.specs.declared.fault.FormatFault.{FormatFault}
use Rattle.fs_model.specs.Case.{CaseData}
use Rattle.fs_model.specs.Card.{card, HasCard}
use Rattle.fs_model.specs.Outcome.{outcome}
use Rattle.fs_model.specs.Verdict.{IsRight}
use Rattle.fs_model.specs.Job.{site_of, HasOutcomes, jobs_in}
use Rattle.keep_format.specs.KeepFile.{FileData, FileRow, KeptFile, added_rows, conflict_in, file_data, rows_held, kept, file_row_of, rows_read, without_places, written}
use Rattle.keep_format.proofs.Agreeing.{data_if_agreeing, kept_if_apart}
use Rattle.fs_model.specs.Steps.{◌>>=◌}
use Rattle.result_keeper.specs.Acceptance.{HasRightOld, IsRightOld, IsSound, accept, board_of, names_job, outcome_in, outcome_rows, site_named, stranger}
use Rattle.result_keeper.specs.Boards.{or_else}
use Rattle.result_keeper.specs.Begin.{IsOneOfThree, file_begun}
use Rattle.result_keeper.specs.Keep.{IsBeforeOrAfter}
use Rattle.result_keeper.proofs.CardsTell.{cards_tell}
use Rattle.result_keeper.proofs.Files.{file_kept}
use Rattle.result_keeper.proofs.Filing.{outcome_in-append}
use Rattle.result_keeper.proofs.KeptRows.{rows_and_written}
use Rattle.result_keeper.proofs.Right.{right_rows}
use Rattle.result_keeper.proofs.Opened.{WasOpened, WasEmpty, WasWhole, was_accepted, accept_if}

-- a job has the site that a row names
abbrev pub names : List Job → FileRow → Bool
names list row = names_job list (site_named row)

-- ---- places of a board

board_place : (list : List Job) (rows : List Row) (i : ℕ) → slice_get (board_of list rows) i ≡ option_map (λ job. outcome_in rows (site_of job)) (slice_get list i)
board_place list rows i = slice_get-map (λ job. outcome_in rows (site_of job)) list i

some_same : {A : Type 0} (a b : A) → Some a ≡ Some b → a ≡ b
some_same a b e = cc

pub board_at : (list : List Job) (rows : List Row) (i : ℕ) (job : Job) (o : Outcome) → slice_get list i ≡ Some job → slice_get (board_of list rows) i ≡ Some (Some o) → outcome_in rows (site_of job) ≡ Some o
board_at list rows i job o there place =
    some_same (outcome_in rows (site_of job)) (Some o)
    (sym (board_place list rows i ∙ ap (option_map (λ j. outcome_in rows (site_of j))) there) ∙ place)

pub blank_right : (c : CaseData) (board : List (Option Outcome)) → board ≡ board_of (jobs_in c) [] → HasOutcomes (outcome c) (jobs_in c) board
blank_right c board blank i job o there place =
    let none : outcome_in [] (site_of job) ≡ Some o = board_at (jobs_in c) [] i job o there (ap (λ (b : List (Option Outcome)). slice_get b i) (sym blank) ∙ place) in
    absurd (cc)

-- ---- all rows name jobs

and_case : (t : Bool) (rest : Option ℕ) (at : ℕ) (others : Bool) → (if t then rest else Some at) ≡ None → (rest ≡ None → others ≡ true) → (t && others) ≡ true
and_case true rest at others is step = step is
and_case false rest at others is step = absurd (cc)

pub named_if : (list : List Job) (rows : List KeptRow) → stranger list rows ≡ None → list_all (names list) (map file_row_of rows) ≡ true
named_if list [] none = refl
named_if list (row ∷ rows) none = and_case (names list (file_row_of row)) (stranger list rows) row.at (list_all (names list) (map file_row_of rows)) none (named_if list rows)

none_case : (t : Bool) (rest : Option ℕ) (at : ℕ) (others : Bool) → (t && others) ≡ true → (others ≡ true → rest ≡ None) → (if t then rest else Some at) ≡ None
none_case true rest at others is step = step is
none_case false rest at others is step = absurd (cc)

pub if_named : (list : List Job) (rows : List KeptRow) → list_all (names list) (map file_row_of rows) ≡ true → stranger list rows ≡ None
if_named list [] all = refl
if_named list (row ∷ rows) all = none_case (names list (file_row_of row)) (stranger list rows) row.at (list_all (names list) (map file_row_of rows)) all (if_named list rows)

front_case : (t a b : Bool) → (t && b) ≡ true → (b ≡ true → a ≡ true) → (t && a) ≡ true
front_case true a b is step = step is
front_case false a b is step = absurd (cc)

pub front_named : (list : List Job) (a b : List FileRow) → list_all (names list) (a ++ b) ≡ true → list_all (names list) a ≡ true
front_named list [] b all = refl
front_named list (row ∷ a) b all = front_case (names list row) (list_all (names list) a) (list_all (names list) (a ++ b)) all (front_named list a b)

-- ---- what is kept

pub record DataOf (file bytes : List ℕ) (rows : List FileRow) : Type 0 where
  pub places : List KeptRow
  pub gate : ℕ
  pub whole : file_data file ≡ Ok (record { card = bytes; rows = places; gate = gate })
  pub same : map file_row_of places ≡ rows

pub kept_part : {A : Type 0} (f : KeptFile → A) {x y : KeptFile} → (let r : Result KeptFile FormatFault = Ok x in r) ≡ Ok y → f x ≡ f y
kept_part f {x} {y} e = ap f (let s : x ≡ y = cc in s)

data_case : (file bytes : List ℕ) (rows : List FileRow) (found : Result FileData FormatFault) → file_data file ≡ found → (found >>= λ data'. Ok (without_places data')) ≡ Ok (record { card = bytes; rows = rows }) → DataOf file bytes rows
data_case file bytes rows (Err fault) whole is = absurd (cc)
data_case file bytes rows (Ok found) whole is = record {
  places = found.rows;
  gate = found.gate;
  whole = whole ∙ ap (λ (b : List ℕ). let d : FileData = record { card = b; rows = found.rows; gate = found.gate } in Ok d) (kept_part (λ (k : KeptFile). k.card) is);
  same = kept_part (λ (k : KeptFile). k.rows) is;
}

pub data_of : (file bytes : List ℕ) (rows : List FileRow) → kept file ≡ Ok (record { card = bytes; rows = rows }) → DataOf file bytes rows
data_of file bytes rows is = data_case file bytes rows (file_data file) refl is

pub not_both : {A : Type 0} (fault : FormatFault) (x : A) (r : Result A FormatFault) → r ≡ Err fault → r ≡ Ok x → ⊥
not_both fault x r a b = cc

-- the rows of a file that keeps some
pub known_rows : (file bytes : List ℕ) (rows : List KeptRow) (gate : ℕ) → rows_read file ≡ Ok (record { card = bytes; rows = rows; gate = gate }) → (found : KeptFile) → kept file ≡ Ok found
    → DataOf file bytes (map file_row_of rows)
known_rows file bytes rows gate read found keeps = by (conflict_in rows) refl
  where
    by : (conflict : Option FormatFault) → conflict_in rows ≡ conflict → DataOf file bytes (map file_row_of rows)
    by None none = record { places = rows; gate = gate; whole = data_if_agreeing file _ read none; same = refl }
    by (Some fault) apart = absurd (not_both fault found (kept file) (kept_if_apart file _ fault read apart) keeps)

-- the board that a file gives whose rows are known
pub gives : (file : List ℕ) (c : CaseData) (rows : List FileRow) → DataOf file (card c) rows → list_all (names (jobs_in c)) rows ≡ true → accept file c ≡ Ok (board_of (jobs_in c) (outcome_rows rows))
gives file c rows known all =
    accept_if file c known.places known.gate known.whole (if_named (jobs_in c) known.places (ap (list_all (names (jobs_in c))) known.same ∙ all))
    ∙ ap (λ (l : List FileRow). Ok (board_of (jobs_in c) (outcome_rows l))) known.same

-- ---- sound files

-- what is right of a file in the case that accepts it
abbrev IsSoundFor : List ℕ → CaseData → List (Option Outcome) → Type 0
IsSoundFor file c board = HasOutcomes (outcome c) (jobs_in c) board × HasRightOld c file

pub sound_none : (image : List ℕ) (fault : FormatFault) → kept image ≡ Err fault → IsSound image
unfolding IsSound
sound_none image fault none c board has is = (by (was_accepted image c board is), λ found keeps. absurd (not_both fault found (kept image) none keeps))
  where
    by : WasOpened (card c) (jobs_in c) image board → HasOutcomes (outcome c) (jobs_in c) board
    by (WasEmpty empty blank) = blank_right c board blank
    by (WasWhole rows gate whole fine board_is) = absurd (not_both fault _ (kept image) none (file_kept image (card c) rows gate whole))

-- an empty file keeps nothing
pub nothing_old : (c : CaseData) (image : List ℕ) → image ≡ [] → HasRightOld c image
nothing_old c image empty found is = absurd (no_file found (sym (ap kept empty) ∙ is))
  where
    no_file : (found : KeptFile) → kept [] ≡ Ok found → ⊥
    no_file found e = cc

same_board : (image file : List ℕ) (c : CaseData) (board : List (Option Outcome)) → kept image ≡ kept file → WasOpened (card c) (jobs_in c) image board
    → ((other : List (Option Outcome)) → accept file c ≡ Ok other → IsSoundFor file c other) → IsSoundFor image c board
same_board image file c board same (WasEmpty empty blank) sound = (blank_right c board blank, nothing_old c image empty)
same_board image file c board same (WasWhole rows gate whole fine board_is) sound =
    let known = data_of file (card c) (map file_row_of rows) (sym same ∙ file_kept image (card c) rows gate whole) in
    let both = sound (board_of (jobs_in c) (outcome_rows (map file_row_of rows))) (gives file c (map file_row_of rows) known (named_if (jobs_in c) rows fine)) in
    (subst (HasOutcomes (outcome c) (jobs_in c)) (sym board_is) both.0, λ found is. both.1 found (sym same ∙ is))

pub sound_same : (image file : List ℕ) → kept image ≡ kept file → IsSound file → IsSound image
unfolding IsSound
sound_same image file same sound c board has is = same_board image file c board same (was_accepted image c board is) (λ other gives. sound c other has gives)

or_case : (a b : Option Outcome) (o : Outcome) → or_else a b ≡ Some o → (a ≡ Some o) ⊎ (b ≡ Some o)
or_case None b o is = inr is
or_case (Some x) b o is = inl is

-- what is written is not old
pub new_old : (c : CaseData) (new : List Row) → All (IsRightOld c) (map written new)
new_old c [] = All-nil (IsRightOld c)
new_old c (row ∷ new) = All-cons (IsRightOld c) (written row) (map written new) (λ none. absurd (cc)) (new_old c new)

module _ (file : List ℕ) (case : CaseData) (has : HasCard case) (rows : List FileRow) (known : DataOf file (card case) rows) (new : List Row) (right : All (IsRight case) new) where
  more_board : (image : List ℕ) (c : CaseData) (board : List (Option Outcome)) → HasCard c → kept image ≡ added_rows (kept file) new → WasOpened (card c) (jobs_in c) image board
      → ((other : List (Option Outcome)) → accept file c ≡ Ok other → IsSoundFor file c other) → IsSoundFor image c board
  more_board image c board has_c more (WasEmpty empty blank) sound = (blank_right c board blank, nothing_old c image empty)
  more_board image c board has_c more (WasWhole places gate whole fine board_is) sound =
      let keeps : kept file ≡ Ok (record { card = card case; rows = rows }) =
      file_kept file (card case) known.places known.gate known.whole ∙ ap (λ (l : List FileRow). let k : KeptFile = record { card = card case; rows = l } in Ok k) known.same in
      let after : kept image ≡ Ok (record { card = card case; rows = rows ++ map written new }) = more ∙ ap (λ (k : Result KeptFile FormatFault). added_rows k new) keeps in
      let all : Ok (record { card = card c; rows = map file_row_of places }) ≡ Ok (record { card = card case; rows = rows ++ map written new }) =
      sym (file_kept image (card c) places gate whole) ∙ after in
      let one : card c ≡ card case = kept_part (λ (k : KeptFile). k.card) all in
      let rows_are : map file_row_of places ≡ rows ++ map written new = kept_part (λ (k : KeptFile). k.rows) all in
      let same : case ≡ c = sym (cards_tell c case has_c has one) in
      let right_c : All (IsRight c) new = subst (λ (x : CaseData). All (IsRight x) new) same right in
      let known_c : DataOf file (card c) rows = subst (λ (b : List ℕ). DataOf file b rows) (sym one) known in
      let named : list_all (names (jobs_in c)) rows ≡ true =
      front_named (jobs_in c) rows (map written new) (ap (list_all (names (jobs_in c))) (sym rows_are) ∙ named_if (jobs_in c) places fine) in
      let old : IsSoundFor file c (board_of (jobs_in c) (outcome_rows rows)) = sound (board_of (jobs_in c) (outcome_rows rows)) (gives file c rows known_c named) in
      let old_rows : HasRightOld c image = λ found is.
      subst (All (IsRightOld c)) (sym (kept_part (λ (k : KeptFile). k.rows) (sym is ∙ after)))
      (All-append (IsRightOld c) rows (map written new) (old.1 (record { card = card case; rows = rows }) keeps) (new_old c new)) in (
        λ i job o there place.
            let found : outcome_in (outcome_rows rows ++ new) (site_of job) ≡ Some o =
            ap (λ (l : List Row). outcome_in l (site_of job)) (sym (ap outcome_rows rows_are ∙ rows_and_written rows new))
            ∙ board_at (jobs_in c) (outcome_rows (map file_row_of places)) i job o there (ap (λ (b : List (Option Outcome)). slice_get b i) (sym board_is) ∙ place) in
            ⊎_elim
            (λ first. old.0 i job o there (board_place (jobs_in c) (outcome_rows rows) i ∙ ap (option_map (λ j. outcome_in (outcome_rows rows) (site_of j))) there ∙ ap (λ (p : Option Outcome). Some p) first))
            (λ later. right_rows c new (site_of job) o right_c later)
            (or_case (outcome_in (outcome_rows rows) (site_of job)) (outcome_in new (site_of job)) o (sym (outcome_in-append (outcome_rows rows) new (site_of job)) ∙ found)),
        old_rows,
      )

  pub sound_more : (image : List ℕ) → kept image ≡ added_rows (kept file) new → IsSound file → IsSound image
  unfolding IsSound
  sound_more image more sound c board has_c is = more_board image c board has_c more (was_accepted image c board is) (λ other gives. sound c other has_c gives)

  pub sound_either : (premise : Type 0) → premise → (image : List ℕ) → IsSound file → IsBeforeOrAfter premise (rows_held file) new image → IsSound image
  sound_either premise holds image sound (inl same) = sound_same image file same.keeps sound
  sound_either premise holds image sound (inr more) = sound_more image (more.keeps holds) sound

-- a file of a card and no rows
pub sound_begun : (image bytes : List ℕ) → kept image ≡ Ok (file_begun bytes) → IsSound image
unfolding IsSound
sound_begun image bytes is c board has acc = (by (was_accepted image c board acc), λ found keeps. subst (All (IsRightOld c)) (kept_part (λ (k : KeptFile). k.rows) (sym is ∙ keeps)) (All-nil (IsRightOld c)))
  where
    by : WasOpened (card c) (jobs_in c) image board → HasOutcomes (outcome c) (jobs_in c) board
    by (WasEmpty empty blank) = blank_right c board blank
    by (WasWhole rows gate whole fine board_is) =
        let none : map file_row_of rows ≡ [] = kept_part (λ (k : KeptFile). k.rows) (sym (file_kept image (card c) rows gate whole) ∙ is) in
        blank_right c board (board_is ∙ ap (λ (l : List FileRow). board_of (jobs_in c) (outcome_rows l)) none)

pub sound_three : (old : Past) (bytes image : List ℕ) → EachImage old IsSound → IsOneOfThree old bytes image → IsSound image
sound_three old bytes image sound (inl same) = sound image same
sound_three old bytes image sound (inr (inl none)) = sound_none image _ none
sound_three old bytes image sound (inr (inr is)) = sound_begun image bytes is
