-- How an export ends, by what its parts end with.
use Rattle.std.proofs.Common.{◌≡◌, ◌≢◌, inl, inr, ℕ, false, List, length, Option, Ok, refl, ap, sym, subst, ◌∙◌}
use Rattle.fs_outside.specs.Faults.{IsCaused}
use Rattle.fs_model.specs.declared.outcomes.Outcome.{Outcome}
use Rattle.fs_model.specs.Case.{CaseData}
use Rattle.def_use.specs.Board.{HasOutcomeBelow}
use Rattle.result_keeper.specs.Acceptance.{accept}
use Rattle.row_store.specs.declared.rows.ExportRow.{ExportRow}
use Rattle.phases.specs.Baselines.{Halts}
use Rattle.phases.specs.Opening.{IsUnopened}
use Rattle.phases.specs.Status.{is_keep_fault, is_other_fault, is_read_fault, is_store_fault}
use Rattle.phases.specs.declared.status.Status.{Status}
use Rattle.phases.specs.declared.status.Status.TheVariants as status
use Rattle.phases.proofs.Outputs.{IsSilent}
use Rattle.kept_commands.proofs.FileEnds.{whole_ends}
use Rattle.fs_model.specs.declared.sites.Job.{Job}
use Rattle.fs_model.specs.AccessLog.{log}
use Rattle.fs_model.specs.Job.{JobTable, jobs_of}
use Rattle.fs_model.proofs.Tables.{list_of}
use Rattle.campaign.proofs.Missing.{none_blank}
use Rattle.results_db.specs.Rows.{rows_by}
use Rattle.results_db.specs.Stories.{AreRowsIn, AreRowsOf, ExportsFrom, IsExportCause, IsStored, IsUnstored, StoreStory}

-- ---- causes

pub from_board : (tells : Type 0) (file : List ℕ) (c : CaseData) (board : List (Option Outcome)) (answer : Status) → Halts c → (tells → accept file c ≡ Ok board) → ExportsFrom board answer → IsExportCause tells file c answer
from_board tells file c board status.StoreFault halts opened ends = (halts, λ told. record { board = board; opened = opened told; within = ends })
from_board tells file c board status.KeepFault halts opened ends = (halts, λ told. tt)
from_board tells file c board (status.Stopped kept jobs) halts opened ends = (halts, λ told. record { board = board; opened = opened told; stopped = ends })
from_board tells file c board status.Done halts opened ends = (halts, λ told. record { board = board; opened = opened told; within = ends })
from_board tells file c board status.WriteFault halts opened ends = (halts, λ told. record { board = board; opened = opened told; within = ends })
from_board tells file c board status.NoMemory halts opened ends = tt
from_board tells file c board answer halts opened ends = absurd ends

pub from_unopened : (tells : Type 0) (file : List ℕ) (c : CaseData) (answer : Status) → IsUnopened tells file c answer → IsExportCause tells file c answer
from_unopened tells file c (status.BadGolden fault) why = why
from_unopened tells file c status.KeepFault why = (why, λ told. tt)
from_unopened tells file c (status.BadKeep refusal) why = why
from_unopened tells file c status.NoMemory why = tt
from_unopened tells file c answer why = absurd why

-- ---- from a board on

pub unstored_ends : (board : List (Option Outcome)) (answer : Status) → IsUnstored board answer → ExportsFrom board answer
unstored_ends board (status.Stopped kept jobs) why = why
unstored_ends board status.NoMemory why = tt
unstored_ends board answer why = absurd why

pub stored_ends : (board : List (Option Outcome)) (answer : Status) → HasOutcomeBelow board (length board) → IsStored answer → ExportsFrom board answer
stored_ends board answer whole (inl done) = subst (ExportsFrom board) (sym done) (whole_ends board status.Done whole tt)
stored_ends board answer whole (inr failed) = subst (ExportsFrom board) (sym failed) (whole_ends board status.WriteFault whole tt)

pub fault_ends : (board : List (Option Outcome)) → HasOutcomeBelow board (length board) → ExportsFrom board status.StoreFault
fault_ends board whole = whole_ends board status.Done whole tt

-- ---- faults of devices that these answers do not tell

pub stored_keeps : (answer : Status) → IsStored answer → is_keep_fault answer ≡ false
stored_keeps answer (inl done) = ap is_keep_fault done
stored_keeps answer (inr failed) = ap is_keep_fault failed

pub stored_stores : (answer : Status) → IsStored answer → is_store_fault answer ≡ false
stored_stores answer (inl done) = ap is_store_fault done
stored_stores answer (inr failed) = ap is_store_fault failed

pub unstored_silent : (board : List (Option Outcome)) (answer : Status) → IsUnstored board answer → IsSilent answer
unstored_silent board (status.Stopped kept jobs) why = tt
unstored_silent board status.NoMemory why = tt
unstored_silent board answer why = absurd why

pub unstored_keeps : (board : List (Option Outcome)) (answer : Status) → IsUnstored board answer → is_keep_fault answer ≡ false
unstored_keeps board (status.Stopped kept jobs) why = refl
unstored_keeps board status.NoMemory why = refl
unstored_keeps board answer why = absurd why

pub unstored_stores : (board : List (Option Outcome)) (answer : Status) → IsUnstored board answer → is_store_fault answer ≡ false
unstored_stores board (status.Stopped kept jobs) why = refl
unstored_stores board status.NoMemory why = refl
unstored_stores board answer why = absurd why

pub unopened_stores : (tells : Type 0) (file : List ℕ) (c : CaseData) (answer : Status) → IsUnopened tells file c answer → is_store_fault answer ≡ false
unopened_stores tells file c (status.BadGolden fault) why = refl
unopened_stores tells file c status.KeepFault why = refl
unopened_stores tells file c (status.BadKeep refusal) why = refl
unopened_stores tells file c status.NoMemory why = refl
unopened_stores tells file c answer why = absurd why

-- ---- the store

module _ {T : Type 0} (tells holds : Type 0) (rows : T → List ExportRow) (faults : T → ℕ) (Holds : List ExportRow → Type 0) where
  -- it took the rows
  pub stored_story : (old new : T) (answer : Status) → (tells → holds → Holds (rows new)) → faults new ≡ faults old → IsStored answer → StoreStory tells holds rows faults Holds old new answer
  stored_story old new answer has same stored = record {
    whole = λ told here _. has told here;
    kept = λ told not_done not_failed. absurd (neither stored not_done not_failed);
    cause = rw (stored_stores answer stored) same;
  }
    where
      neither : IsStored answer → answer ≢ status.Done → answer ≢ status.WriteFault → ⊥
      neither (inl done) not_done not_failed = not_done done
      neither (inr failed) not_done not_failed = not_failed failed

  -- it refused them, or was not asked
  pub unstored_story : (old new : T) (answer : Status) → IsSilent answer → (holds → rows new ≡ rows old) → IsCaused (is_store_fault answer) (faults old) (faults new) → StoreStory tells holds rows faults Holds old new answer
  unstored_story old new answer silent same cause = record {
    whole = λ told here stored. absurd (not_stored stored);
    kept = λ told not_done not_failed. same told;
    cause = cause;
  }
    where
      not_stored : IsStored answer → ⊥
      not_stored (inl done) = subst IsSilent done silent
      not_stored (inr failed) = subst IsSilent failed silent

-- ---- answers that come of no case

pub export_usage : (tells : Type 0) (file : List ℕ) (c : CaseData) → IsExportCause tells file c status.Usage → ⊥
export_usage tells file c cause = cause

pub export_reads : (tells : Type 0) (file : List ℕ) (c : CaseData) (answer : Status) → IsExportCause tells file c answer → is_read_fault answer ≡ false
export_reads tells file c status.ReadFault cause = absurd cause
export_reads tells file c answer cause = refl

pub silent_stored : (answer : Status) → IsSilent answer → IsStored answer → ⊥
silent_stored answer silent (inl done) = subst IsSilent done silent
silent_stored answer silent (inr failed) = subst IsSilent failed silent

pub export_others : (tells : Type 0) (file : List ℕ) (c : CaseData) (answer : Status) → IsExportCause tells file c answer → is_other_fault answer ≡ false
export_others tells file c status.OtherFault cause = absurd cause
export_others tells file c answer cause = refl

-- ---- the rows

-- rows that were made of the jobs of a case's table, and stored
pub are_rows : (c : CaseData) (table : JobTable) (board : List (Option Outcome)) (rows stored : List ExportRow) → table ≡ jobs_of (log c) → rows ≡ rows_by table.list board → length rows ≡ length table.list
    → HasOutcomeBelow board (length board) → stored ≡ rows → AreRowsOf c board stored
are_rows c table board rows stored is made each whole same =
    let jobs = list_of c table is in
    record {
      whole = none_blank 0 board whole;
      rows_are = same ∙ made ∙ ap (λ (l : List Job). rows_by l board) jobs;
      each = ap (λ (r : List ExportRow). length r) same ∙ each ∙ ap (λ (l : List Job). length l) jobs;
    }

-- those of a board that a file gives
pub in_file : {T : Type 0} (tells holds : Type 0) (rows : T → List ExportRow) (faults : T → ℕ) (file : List ℕ) (c d : CaseData) (board : List (Option Outcome)) (old new : T) (answer : Status)
    → d ≡ c → (tells → accept file c ≡ Ok board) → StoreStory (Unit {0}) holds rows faults (AreRowsOf d board) old new answer → StoreStory tells holds rows faults (AreRowsIn file c) old new answer
in_file tells holds rows faults file c d board old new answer same opened story = record {
  whole = λ told here stored. record { board = board; opened = opened told; are = subst (λ (x : CaseData). AreRowsOf x board (rows new)) same (story.whole tt here stored) };
  kept = story.kept;
  cause = story.cause;
}
