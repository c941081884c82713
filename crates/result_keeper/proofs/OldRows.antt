-- Files whose old rows are right.
use Rattle.std.proofs.Common.{All, ◌≡◌, inl, inr, ℕ, true, List, ◌++◌, map, Option, Some, None, Result, Ok, Err, sym, ◌∙◌, ap, subst}
use Rattle.std.specs.List.{list_all}
use Rattle.std.proofs.lemmas.List.Elements.{All-nil, All-append}
use Rattle.fs_outside.specs.Past.{Past, EachImage}
use Rattle.fs_model.specs.declared.outcomes.Outcome.{Outcome}
use Rattle.fs_model.specs.declared.outcomes.Row.{Row}
use Rattle.keep_format.specs.declared.rows.KeptRow.{KeptRow}
use Rattle.keep_format.specs.declared.fault.FormatFault.{FormatFault}
use Rattle.fs_model.specs.Case.{CaseData}
use Rattle.fs_model.specs.Card.{card, HasCard}
use Rattle.fs_model.specs.Job.{jobs_in}
use Rattle.keep_format.specs.KeepFile.{FileRow, KeptFile, added_rows, rows_held, kept, file_row_of, written}
use Rattle.result_keeper.specs.Acceptance.{HasRightOld, HasRightOldRows, IsRightOld, IsSound, accept, board_of, outcome_rows}
use Rattle.result_keeper.specs.Begin.{IsOneOfThree, file_begun}
use Rattle.result_keeper.specs.Keep.{IsBeforeOrAfter}
use Rattle.result_keeper.proofs.CardsTell.{cards_tell}
use Rattle.result_keeper.proofs.Files.{file_kept}
use Rattle.result_keeper.proofs.Opened.{WasOpened, WasEmpty, WasWhole, was_accepted}
use Rattle.result_keeper.proofs.Sound.{DataOf, data_of, front_named, gives, kept_part, named_if, names, new_old, not_both, nothing_old}

-- those of a sound file are
pub sound_old : (image : List ℕ) → IsSound image → HasRightOldRows image
unfolding IsSound HasRightOldRows
sound_old image sound c board has is = (sound c board has is).1

-- a file that keeps nothing has none
pub old_none : (image : List ℕ) (fault : FormatFault) → kept image ≡ Err fault → HasRightOldRows image
unfolding HasRightOldRows
old_none image fault none c board has is found keeps = absurd (not_both fault found (kept image) none keeps)

same_rows : (image file : List ℕ) (c : CaseData) (board : List (Option Outcome)) → kept image ≡ kept file → WasOpened (card c) (jobs_in c) image board
    → ((other : List (Option Outcome)) → accept file c ≡ Ok other → HasRightOld c file) → HasRightOld c image
same_rows image file c board same (WasEmpty empty blank) right = nothing_old c image empty
same_rows image file c board same (WasWhole rows gate whole fine board_is) right =
    let known = data_of file (card c) (map file_row_of rows) (sym same ∙ file_kept image (card c) rows gate whole) in
    let old = right (board_of (jobs_in c) (outcome_rows (map file_row_of rows))) (gives file c (map file_row_of rows) known (named_if (jobs_in c) rows fine)) in
    λ found is. old found (sym same ∙ is)

pub old_same : (image file : List ℕ) → kept image ≡ kept file → HasRightOldRows file → HasRightOldRows image
unfolding HasRightOldRows
old_same image file same right c board has is = same_rows image file c board same (was_accepted image c board is) (λ other gives. right c other has gives)

module _ (file : List ℕ) (case : CaseData) (has : HasCard case) (rows : List FileRow) (known : DataOf file (card case) rows) (new : List Row) where
  more_rows : (image : List ℕ) (c : CaseData) (board : List (Option Outcome)) → HasCard c → kept image ≡ added_rows (kept file) new → WasOpened (card c) (jobs_in c) image board
      → ((other : List (Option Outcome)) → accept file c ≡ Ok other → HasRightOld c file) → HasRightOld c image
  more_rows image c board has_c more (WasEmpty empty blank) right = nothing_old c image empty
  more_rows image c board has_c more (WasWhole places gate whole fine board_is) right =
      let keeps : kept file ≡ Ok (record { card = card case; rows = rows }) =
      file_kept file (card case) known.places known.gate known.whole ∙ ap (λ (l : List FileRow). let k : KeptFile = record { card = card case; rows = l } in Ok k) known.same in
      let after : kept image ≡ Ok (record { card = card case; rows = rows ++ map written new }) = more ∙ ap (λ (k : Result KeptFile FormatFault). added_rows k new) keeps in
      let all : Ok (record { card = card c; rows = map file_row_of places }) ≡ Ok (record { card = card case; rows = rows ++ map written new }) =
      sym (file_kept image (card c) places gate whole) ∙ after in
      let one : card c ≡ card case = kept_part (λ (k : KeptFile). k.card) all in
      let rows_are : map file_row_of places ≡ rows ++ map written new = kept_part (λ (k : KeptFile). k.rows) all in
      let known_c : DataOf file (card c) rows = subst (λ (b : List ℕ). DataOf file b rows) (sym one) known in
      let named : list_all (names (jobs_in c)) rows ≡ true =
      front_named (jobs_in c) rows (map written new) (ap (list_all (names (jobs_in c))) (sym rows_are) ∙ named_if (jobs_in c) places fine) in
      let old : HasRightOld c file = right (board_of (jobs_in c) (outcome_rows rows)) (gives file c rows known_c named) in
      λ found is.
      subst (All (IsRightOld c)) (sym (kept_part (λ (k : KeptFile). k.rows) (sym is ∙ after)))
      (All-append (IsRightOld c) rows (map written new) (old (record { card = card case; rows = rows }) keeps) (new_old c new))

  pub old_more : (image : List ℕ) → kept image ≡ added_rows (kept file) new → HasRightOldRows file → HasRightOldRows image
  unfolding HasRightOldRows
  old_more image more right c board has_c is = more_rows image c board has_c more (was_accepted image c board is) (λ other gives. right c other has_c gives)

  pub old_either : (premise : Type 0) → premise → (image : List ℕ) → HasRightOldRows file → IsBeforeOrAfter premise (rows_held file) new image → HasRightOldRows image
  old_either premise holds image right (inl same) = old_same image file same.keeps right
  old_either premise holds image right (inr more) = old_more image (more.keeps holds) right

-- a file of a card and no rows
pub old_begun : (image bytes : List ℕ) → kept image ≡ Ok (file_begun bytes) → HasRightOldRows image
unfolding HasRightOldRows
old_begun image bytes is c board has acc found keeps = subst (All (IsRightOld c)) (kept_part (λ (k : KeptFile). k.rows) (sym is ∙ keeps)) (All-nil (IsRightOld c))

pub old_three : (old : Past) (bytes image : List ℕ) → EachImage old HasRightOldRows → IsOneOfThree old bytes image → HasRightOldRows image
old_three old bytes image right (inl same) = right image same
old_three old bytes image right (inr (inl none)) = old_none image _ none
old_three old bytes image right (inr (inr is)) = old_begun image bytes is
