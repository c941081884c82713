-- The board that a file gives which records it.
use Rattle.std.proofs.Common.{◌≡◌, ℕ, List, [], Option, Some, None, Result, Ok, Err, refl, sym, ◌∙◌, ap}
use Rattle.fs_outside.specs.Past.{Past, content, EachImage}
use Rattle.fs_outside.proofs.Moments.{image_if_synced}
use Rattle.fs_model.specs.declared.outcomes.Outcome.{Outcome}
use Rattle.fs_model.specs.declared.outcomes.Row.{Row}
use Rattle.fs_model.specs.Case.{CaseData}
use Rattle.fs_model.specs.Card.{card}
use Rattle.fs_model.specs.Job.{jobs_in}
use Rattle.keep_format.specs.declared.fault.FormatFault.{FormatFault}
use Rattle.keep_format.specs.KeepFile.{FileData, KeptFile, added_rows, conflict_in, kept, rows_read}
use Rattle.keep_format.proofs.Agreeing.{data_if_agreeing, kept_if_apart}
use Rattle.result_keeper.specs.Acceptance.{accept}
use Rattle.result_keeper.specs.Keep.{Gives, IsSettled, RecordsBoard}
use Rattle.result_keeper.proofs.Files.{file_kept}
use Rattle.result_keeper.proofs.Opened.{WasOpened, WasEmpty, WasWhole, was_accepted, accept_if}

not_both : (fault : FormatFault) (found : KeptFile) → (let r : Result KeptFile FormatFault = Err fault in r) ≡ Ok found → ⊥
not_both fault found e = cc

-- where it has no conflict, it gives its board
pub gives_if_kept : (file : List ℕ) (c : CaseData) (board : List (Option Outcome)) (gate : ℕ) → RecordsBoard c board gate file → (found : KeptFile) → kept file ≡ Ok found → accept file c ≡ Ok board
gives_if_kept file c board gate is found keeps = by (conflict_in is.rows) refl
  where
    by : (conflict : Option FormatFault) → conflict_in is.rows ≡ conflict → accept file c ≡ Ok board
    by None none = accept_if file c is.rows gate (data_if_agreeing file _ is.read none) is.named ∙ ap (λ (b : List (Option Outcome)). Ok b) (sym is.board_is)
    by (Some fault) apart = absurd (not_both fault found (sym (kept_if_apart file _ fault is.read apart) ∙ keeps))

no_rows : (found : FileData) → rows_read [] ≡ Ok found → ⊥
no_rows found e = cc

-- and back
pub kept_if_gives : (file : List ℕ) (c : CaseData) (board : List (Option Outcome)) (gate : ℕ) → RecordsBoard c board gate file → accept file c ≡ Ok board → (found : KeptFile) × (kept file ≡ Ok found)
kept_if_gives file c board gate is gives = by (was_accepted file c board gives)
  where
    by : WasOpened (card c) (jobs_in c) file board → (found : KeptFile) × (kept file ≡ Ok found)
    by (WasEmpty empty blank) = absurd (no_rows _ (sym (ap rows_read empty) ∙ is.read))
    by (WasWhole rows place whole fine board_is) = (_, file_kept file (card c) rows place whole)

-- with rows more that it keeps
pub gives_more : (file image : List ℕ) (c : CaseData) (board now : List (Option Outcome)) (gate place : ℕ) (new : List Row) → RecordsBoard c board gate file → RecordsBoard c now place image
    → kept image ≡ added_rows (kept file) new → accept file c ≡ Ok board → accept image c ≡ Ok now
gives_more file image c board now gate place new is later more gives =
    let keeps = kept_if_gives file c board gate is gives in
    gives_if_kept image c now place later _ (more ∙ ap (λ (k : Result KeptFile FormatFault). added_rows k new) keeps.1)

-- what each crash leaves of a settled disk
pub settled_gives : (c : CaseData) (board : List (Option Outcome)) (gate : ℕ) (past : Past) → IsSettled c board gate past → accept (content past) c ≡ Ok board → EachImage past (Gives c board)
settled_gives c board gate past settled gives image now = ap (λ (f : List ℕ). accept f c) (image_if_synced past image settled.synced now) ∙ gives
