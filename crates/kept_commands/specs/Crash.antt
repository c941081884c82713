-- What a command leaves of its campaign file: at each moment, whatever crashes then, and at its end.
use Rattle.std.specs.Prelude.{◌≡◌, ◌⊎◌, ℕ, ◌+◌, ◌<◌, ◌≤◌, Bool, false, List, [], length, take, Option, Ok, Err}
use Rattle.fs_outside.specs.Past.{Past, content, IsImage, EachImage, LeavesOnly}
use Rattle.keep_format.specs.declared.fault.FormatFault.TheVariants.{NotACampaign}
use Rattle.fs_model.specs.declared.outcomes.Outcome.{Outcome}
use Rattle.fs_model.specs.declared.outcomes.Row.{Row}
use Rattle.fs_model.specs.Job.{jobs_in}
use Rattle.result_keeper.specs.Acceptance.{HasRightOldRows, IsSound, accept, board_of}
use Rattle.fs_model.specs.Card.{card}
use Rattle.fs_model.specs.Case.{CaseData}
use Rattle.keep_format.specs.KeepFile.{FileRow, Held, agreed, rows_held, kept}
use Rattle.fs_model.specs.Pages.{missing}
use Rattle.def_use.specs.Board.{kept_of}
use Rattle.result_keeper.specs.Accept.{IsBegun}
use Rattle.result_keeper.specs.Begin.{file_begun}
use Rattle.result_keeper.specs.Keep.{Gives, HoldsMore, KeeperData, RecordsRow, RowStays}
use Rattle.result_keeper.specs.Batches.{all_rows}
use Rattle.kept_commands.specs.Keep.{LeavesKeep}
use Rattle.phases.specs.declared.status.Status.{Status}
use Rattle.phases.specs.declared.status.Status.TheVariants as status

-- ---- at a moment

-- A file records what was recorded before, and the rows of the first `count` pages; and where the premise holds, it keeps what
-- was kept, and them.
abbrev pub HoldsPages : Type 0 → Held → List (List Row) → ℕ → List ℕ → Type 0
HoldsPages premise before pages count image = HoldsMore premise before (all_rows (take count pages)) image

-- the same of some number of pages
pub record KeepsFirstPages (premise : Type 0) (before : Held) (pages : List (List Row)) (image : List ℕ) : Type 0 where
  pub count : ℕ
  pub within : count ≤ length pages
  pub keeps : HoldsPages premise before pages count image

-- a file that was opened holds the first of these pages more; `sure` says that their rows are right
abbrev pub KeepsPages : Type 0 → List (List Row) → Past → List ℕ → Type 0
KeepsPages sure pages old image = KeepsFirstPages (sure × EachImage old HasRightOldRows) (rows_held (content old)) pages image

-- What a crash leaves while a file is opened, or begun, and rows are appended to it in pages, which follow from the board that it
-- gave. `sure` says that these rows are right: without it, nothing is said of what the file keeps, but all of what it records.
pub data IsWorkedOn (sure : Type 0) (fresh : Bool) (due : List (Option Outcome) → List (List Row)) (c : CaseData) (old : Past) (image : List ℕ) : Type 0 where
  -- a file that a crash might have left at entry;
  AsAtEntry : IsImage old image → IsWorkedOn sure fresh due c old image
  -- of a file that is begun, one that is no campaign,
  Beginning : IsBegun fresh (content old) → kept image ≡ Err NotACampaign → IsWorkedOn sure fresh due c old image
  -- or one of this case with the rows of the first pages alone: none at first, and none that stood there at entry;
  BegunAnew : IsBegun fresh (content old) → KeepsFirstPages sure (agreed (file_begun (card c))) (due (board_of (jobs_in c) [])) image
      → IsWorkedOn sure fresh due c old image
  -- of one that is not, the rows of a file that a crash might have left at entry, and those of the first pages, which do not
  -- disagree with them where the old rows of each such file are right.
  GoneOn : (board : List (Option Outcome)) → accept (content old) c ≡ Ok board
      → (file : List ℕ) → IsImage old file → KeepsFirstPages (sure × EachImage old HasRightOldRows) (rows_held file) (due board) image
      → IsWorkedOn sure fresh due c old image

-- ---- at the end

-- whatever a crash leaves from now on gives one board, on which each job has an outcome
pub record GivesAll (c : CaseData) (now : Past) : Type 0 where
  pub board : List (Option Outcome)
  pub images : EachImage now (Gives c board)
  pub none_missing : missing board ≡ []

-- or one on which this many jobs have one
pub record GivesSome (c : CaseData) (now : Past) (count : ℕ) : Type 0 where
  pub board : List (Option Outcome)
  pub images : EachImage now (Gives c board)
  pub counted : kept_of board ≡ count

-- The disk failed at a page: whatever a crash leaves from now on holds the pages before it, whose appends succeeded, and that
-- page whole or not at all.
pub record HoldsUpTo (premise : Type 0) (before : Held) (pages : List (List Row)) (now : Past) : Type 0 where
  pub count : ℕ
  pub fewer : count < length pages
  pub images : EachImage now (λ image. HoldsPages premise before pages count image ⊎ HoldsPages premise before pages (count + 1) image)

-- The disk failed while a file was opened, or begun, and rows were appended to it:
pub data IsCutOff (fresh : Bool) (due : List (Option Outcome) → List (List Row)) (c : CaseData) (old now : Past) : Type 0 where
  -- at the opening, before the first page;
  AtOpening : EachImage now (IsWorkedOn (Unit {0}) fresh (λ board. []) c old) → IsCutOff fresh due c old now
  -- at a page of a file that was begun;
  AtPageAnew : IsBegun fresh (content old)
      → HoldsUpTo (Unit {0}) (agreed (file_begun (card c))) (due (board_of (jobs_in c) [])) now → IsCutOff fresh due c old now
  -- or of one that was not, and that a crash might have left at entry.
  AtPage : (board : List (Option Outcome)) → accept (content old) c ≡ Ok board
      → (file : List ℕ) → IsImage old file → HoldsUpTo (EachImage old HasRightOldRows) (rows_held file) (due board) now → IsCutOff fresh due c old now

-- What an answer says of the file that the jobs of the case were run for: all jobs, or this many; if the disk failed, `cut`; and
-- where memory ran out, `same`, or all jobs.
abbrev pub KeepsAtEnd : Type 0 → Type 0 → CaseData → Past → Status → Type 0
KeepsAtEnd cut same c now status.Done = GivesAll c now
KeepsAtEnd cut same c now status.WriteFault = GivesAll c now
KeepsAtEnd cut same c now (status.Stopped kept jobs) = GivesSome c now kept
KeepsAtEnd cut same c now status.KeepFault = cut
KeepsAtEnd cut same c now status.NoMemory = same ⊎ GivesAll c now
KeepsAtEnd cut same c now answer = Unit {0}

-- ---- the whole story

-- What a call that gave this answer did to its campaign file, which was `old` at entry and is `new` now. `told` is what it has to be
-- told beside that file, and `given` what has to hold of that too: that its outcomes are right.
pub record CrashStory (told given only_reads goes_on : Type 0) (left : Type 0 → List ℕ → Type 0) (ends : Type 0) (old new : Past)
    (answer : Status) : Type 0 where
  -- one that only reads did nothing to it
  pub read : only_reads → new ≡ old
  -- one that was refused leaves it as it reads
  pub untouched : LeavesKeep answer → content new ≡ content old
  -- where each crash left a sound file before, each crash since left one
  pub sound : given → EachImage old IsSound → LeavesOnly old new IsSound
  -- and the same of one whose old rows are right
  pub old_rows : given → EachImage old HasRightOldRows → LeavesOnly old new HasRightOldRows
  -- and unless the file is started again, each row that each crash left before: recorded in any case,
  pub recorded : goes_on → (row : FileRow) → EachImage old (RecordsRow row) → LeavesOnly old new (RecordsRow row)
  -- and kept
  pub rows_stay : given → goes_on → (row : FileRow) → RowStays old new row
  -- this is what a crash left at any moment of the call: what it records in any case,
  pub moments_recorded : told → LeavesOnly old new (left ⊥)
  -- and what it keeps
  pub moments : given → LeavesOnly old new (left (Unit {0}))
  -- and this holds at its end, where the old rows of what each crash left before are right, if the file is not started again
  pub end : given → (goes_on → EachImage old HasRightOldRows) → ends

-- pages of rows were appended to a file that was opened, and gave the keeper's board
abbrev pub PagesStory : Type 0 → KeeperData → List (List Row) → Past → Past → Status → Type 0
PagesStory given keeper pages old new answer =
    CrashStory (Unit {0}) given ⊥ (Unit {0}) (λ sure. KeepsPages sure pages old)
    (Gives keeper.case keeper.board (content old)
    → KeepsAtEnd (HoldsUpTo (EachImage old HasRightOldRows) (rows_held (content old)) pages new) ⊥ keeper.case new answer) old new answer

-- a file was opened, or begun, and pages of rows that follow from its board were appended to it
abbrev pub WorkedStory : Type 0 → Bool → (List (Option Outcome) → List (List Row)) → CaseData → Past → Past → Status → Type 0
WorkedStory given fresh due c old new answer =
    CrashStory (Unit {0}) given ⊥ (fresh ≡ false) (λ sure. IsWorkedOn sure fresh due c old)
    (KeepsAtEnd (IsCutOff fresh due c old new) (content new ≡ content old) c new answer) old new answer
