-- Disks on which a file was opened.
use Rattle.std.proofs.Common.{◌≡◌, ⊎_elim, ℕ, ◌+◌, Bool, true, false, ◌==◌, List, [], ◌∷◌, length, replicate, Option, None, Result, Ok, Err, IfOk, refl, sym, ◌∙◌, ap, subst, arith}
use Rattle.std.proofs.lemmas.Bool.Decides.{nat_tests}
use Rattle.fs_outside.specs.Past.{Past, content, IsImage, IsSynced, EachImage, LeavesOnly}
use Rattle.fs_outside.proofs.Moments.{weaker}
use Rattle.fs_model.specs.declared.sites.Job.{Job}
use Rattle.fs_model.specs.declared.outcomes.Outcome.{Outcome}
use Rattle.fs_model.specs.Case.{CaseData}
use Rattle.fs_model.specs.Card.{card, HasCard}
use Rattle.keep_format.specs.KeepFile.{FileData, FileRow}
use Rattle.keep_format.proofs.Agreeing.{agreeing_data}
use Rattle.fs_model.specs.Job.{jobs_in}
use Rattle.result_keeper.specs.Acceptance.{HasRightOldRows, IsSound, accept, board_of}
use Rattle.result_keeper.specs.declared.accepting.Accepted.{Accepted}
use Rattle.result_keeper.specs.declared.refusals.AdoptRefusal.{AdoptRefusal}
use Rattle.result_keeper.specs.Accept.{IsAccepted, IsBegun}
use Rattle.result_keeper.specs.Begin.{IsHeaded, IsOneOfThree}
use Rattle.result_keeper.specs.Keep.{IsSettled, RowStays}
use Rattle.result_keeper.proofs.Begun.{headed_whole}
use Rattle.result_keeper.proofs.Filing.{blank_board}
use Rattle.result_keeper.proofs.CardsTell.{card_short}
use Rattle.result_keeper.proofs.Opened.{accept_if, accept_empty}
use Rattle.result_keeper.proofs.OldRows.{old_three}
use Rattle.result_keeper.proofs.Sound.{sound_three}
use Rattle.result_keeper.proofs.Stays.{stays_as_before}

-- one that was begun
pub settled_begun : (c : CaseData) (list : List Job) (board : List (Option Outcome)) (n : ℕ) (past : Past) → HasCard c → list ≡ jobs_in c → board ≡ board_of list [] → n ≡ length (card c) → IsSynced past → IsHeaded (card c) (content past)
    → IsSettled c board (13 + n) past
settled_begun c list board n past has jobs blank long synced headed =
    let whole = headed_whole (card c) (content past) (card_short c has) headed in
    let read = (agreeing_data (content past) _ whole).0 in
    record {
      synced = synced;
      file = record {
        rows = [];
        read = read ∙ ap (λ (k : ℕ). let d : FileData = record { card = card c; rows = []; gate = 13 + k } in Ok d) (sym long);
        named = refl;
        board_is = blank ∙ ap (λ (l : List Job). board_of l []) jobs;
      };
    }

-- it gives a blank board
pub begun_gives : (c : CaseData) (list : List Job) (board : List (Option Outcome)) (file : List ℕ) → HasCard c → list ≡ jobs_in c → board ≡ board_of list [] → IsHeaded (card c) file → accept file c ≡ Ok board
begun_gives c list board file has jobs blank headed =
    accept_if file c [] (13 + length (card c)) (headed_whole (card c) file (card_short c has) headed) refl
    ∙ ap (λ (b : List (Option Outcome)). Ok b) (sym (blank ∙ ap (λ (l : List Job). board_of l []) jobs))

-- one that was accepted as it is
pub settled_accepted : (c : CaseData) (old new : Past) (result : Result Accepted AdoptRefusal) → IsSynced old → new ≡ old → IfOk result (λ found. IsAccepted (content old) c found.board found.gate)
    → IfOk result (λ found. IsSettled c found.board found.gate new)
settled_accepted c old new (Err refusal) synced same accepted = tt
settled_accepted c old new (Ok found) synced same accepted =
    subst (λ p. IsSettled c found.board found.gate p) (sym same) (record { synced = synced; file = accepted.records })

pub accepted_gives : (c : CaseData) (old new : Past) (result : Result Accepted AdoptRefusal) → new ≡ old → IfOk result (λ found. IsAccepted (content old) c found.board found.gate)
    → IfOk result (λ found. accept (content new) c ≡ Ok found.board)
accepted_gives c old new (Err refusal) same accepted = tt
accepted_gives c old new (Ok found) same accepted = ap (λ (p : Past). accept (content p) c) same ∙ accepted.accepted

pub empty_gives : (c : CaseData) (list : List Job) (board : List (Option Outcome)) (file : List ℕ) → list ≡ jobs_in c → board ≡ board_of list [] → file ≡ [] → accept file c ≡ Ok board
empty_gives c list board file jobs blank empty =
    accept_empty file c empty ∙ ap (λ (l : List Job). Ok (board_of l [])) (sym jobs) ∙ ap (λ (b : List (Option Outcome)). Ok b) (sym blank)

-- an empty file that is begun without being told to begin
pub opened_begun : (c : CaseData) (list : List Job) (board : List (Option Outcome)) (fresh : Bool) (file : List ℕ) → list ≡ jobs_in c → board ≡ board_of list [] → IsBegun fresh file → fresh ≡ false → accept file c ≡ Ok board
opened_begun c list board fresh file jobs blank begun stale =
    ⊎_elim
    (λ (told : fresh ≡ true). absurd (cc))
    (λ (empty : file ≡ []). empty_gives c list board file jobs blank empty)
    begun

-- what an opening leaves is sound
pub opened_sound : (old new : Past) (bytes : List ℕ) → LeavesOnly old new (IsOneOfThree old bytes) → EachImage old IsSound → LeavesOnly old new IsSound
opened_sound old new bytes leaves sound = weaker old new (IsOneOfThree old bytes) IsSound (λ image three. sound_three old bytes image sound three) leaves

-- its old rows are right
pub opened_old : (old new : Past) (bytes : List ℕ) → LeavesOnly old new (IsOneOfThree old bytes) → EachImage old HasRightOldRows → LeavesOnly old new HasRightOldRows
opened_old old new bytes leaves right = weaker old new (IsOneOfThree old bytes) HasRightOldRows (λ image three. old_three old bytes image right three) leaves

-- and it has each row that each crash left, where the file is not told to begin
pub opened_stays : (old new : Past) (fresh : Bool) → IsImage old (content old) → ((IsBegun fresh (content old) → ⊥) → LeavesOnly old new (IsImage old)) → fresh ≡ false → (row : FileRow) → RowStays old new row
opened_stays old new fresh reads leaves stale row =
    stays_as_before old new row reads (λ some. leaves (λ begun. ⊎_elim (λ (told : fresh ≡ true). absurd (cc)) (λ (empty : content old ≡ []). some empty) begun))

-- a new board
pub blank_new : (list : List Job) (board : List (Option Outcome)) (n : ℕ) → n ≡ length list → board ≡ replicate n None → board ≡ board_of list []
blank_new list board n long is = is ∙ ap (λ (k : ℕ). replicate k None) long ∙ blank_board list

-- no bytes
pub none_if : (bytes : List ℕ) → (length bytes == 0) ≡ true → bytes ≡ []
none_if [] is = refl
none_if (byte ∷ bytes) is = absurd (grind (arith, nat_tests))
