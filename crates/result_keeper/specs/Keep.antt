-- What a keeper knows, and what it promises of its file.
use Rattle.std.specs.Prelude.{◌≡◌, ◌⊎◌, ℕ, ◌+◌, ◌-◌, ◌*◌, ◌^◌, ◌<◌, Bool, true, Option, None, List, [], ◌∷◌, ◌++◌, length, map, Result, Ok}
use Rattle.fs_outside.specs.Past.{Past, content, EachImage, IsSynced, LeavesOnly, Torn, overwritten}
use Rattle.def_use.specs.Board.{kept_of}
use Rattle.fs_model.specs.declared.sites.Job.{Job}
use Rattle.fs_model.specs.declared.outcomes.Outcome.{Outcome}
use Rattle.fs_model.specs.declared.outcomes.Row.{Row}
use Rattle.keep_format.specs.declared.rows.KeptRow.{KeptRow}
use Rattle.fs_model.specs.Card.{card}
use Rattle.fs_model.specs.Case.{CaseData}
use Rattle.keep_format.specs.declared.fault.FormatFault.{FormatFault}
use Rattle.keep_format.specs.KeepFile.{FileRow, Held, KeptFile, added_rows, batch_bytes, kept, recorded, file_row_of, rows_read}
use Rattle.fs_model.specs.Job.{jobs_in}
use Rattle.result_keeper.specs.Acceptance.{HasRightOldRows, accept, board_of, outcome_rows, stranger}

pub record KeeperData : Type 0 where
  pub case : CaseData
  pub list : List Job
  pub board : List (Option Outcome)
  -- the place of the file's closed gate
  pub gate : ℕ
  -- how many rows an append has, at most
  pub page : ℕ
  pub healthy : Bool

-- The list is the case's, a place of the board is there for each job, and as many more bytes as the blank jobs may take
-- end far below 2 ^ 64.
pub record IsKeeper (case : CaseData) (list : List Job) (board : List (Option Outcome)) (gate page : ℕ) : Type 0 where
  pub jobs : list ≡ jobs_in case
  pub long : length board ≡ length list
  pub few : page < 2 ^ 16
  pub room : gate + 13 * (length board - kept_of board) < 2 ^ 63 + 2 ^ 36

-- A file of the case records this board: all its rows name jobs, its closed gate is there, and the board has the outcomes of
-- its rows. Whether these agree is left open, so that it is so of every file, sound or not, to which rows were appended.
pub record RecordsBoard (case : CaseData) (board : List (Option Outcome)) (gate : ℕ) (file : List ℕ) : Type 0 where
  pub rows : List KeptRow
  pub read : rows_read file ≡ Ok (record { card = card case; rows = rows; gate = gate })
  pub named : stranger (jobs_in case) rows ≡ None
  pub board_is : board ≡ board_of (jobs_in case) (outcome_rows (map file_row_of rows))

-- the disk has a file that records the board, and nothing on it is unsynced
pub record IsSettled (case : CaseData) (board : List (Option Outcome)) (gate : ℕ) (past : Past) : Type 0 where
  pub synced : IsSynced past
  pub file : RecordsBoard case board gate (content past)

-- the same of a keeper's case, board and gate: the disk is as its last call left it
abbrev pub HasFile : KeeperData → Past → Type 0
HasFile keeper past = IsSettled keeper.case keeper.board keeper.gate past

-- the board is what an image gives for the case
abbrev pub Gives : CaseData → List (Option Outcome) → List ℕ → Type 0
Gives case board image = accept image case ≡ Ok board

-- an image holds what was held before
pub record HoldsSame (before : Held) (image : List ℕ) : Type 0 where
  pub records : recorded image ≡ before.recorded
  pub keeps : kept image ≡ before.kept

-- An image records what was recorded before, and these rows; and it keeps what was kept before, and these rows, where the
-- premise holds: else they may disagree with an old row that is wrong.
pub record HoldsMore (premise : Type 0) (before : Held) (rows : List Row) (image : List ℕ) : Type 0 where
  pub records : recorded image ≡ added_rows before.recorded rows
  pub keeps : premise → kept image ≡ added_rows before.kept rows

-- with these rows or without
abbrev pub IsBeforeOrAfter : Type 0 → Held → List Row → List ℕ → Type 0
IsBeforeOrAfter premise before rows image = HoldsSame before image ⊎ HoldsMore premise before rows image

-- what two synced writes leave: a body after a gate, and the gate
abbrev pub IsBodyOrGate : List ℕ → ℕ → List ℕ → List ℕ → Type 0
IsBodyOrGate file gate body image =
    Torn file (gate + 1) (length body) image ⊎ Torn (overwritten file (gate + 1) body) gate 1 image

-- a file with an open gate and a batch of these rows where its closed gate was, and a closed gate after them
abbrev pub appended : List ℕ → ℕ → List Row → List ℕ
appended file gate rows = overwritten (overwritten file (gate + 1) (batch_bytes rows ++ 0 ∷ [])) gate (0xA5 ∷ [])

-- the row is among those that were read
pub record HasRow (row : FileRow) (read : Result KeptFile FormatFault) : Type 0 where
  pub file : KeptFile
  pub is : read ≡ Ok file
  pub before : List FileRow
  pub after : List FileRow
  pub there : file.rows ≡ before ++ row ∷ after

-- an image records the row, whether its rows agree or not
abbrev pub RecordsRow : FileRow → List ℕ → Type 0
RecordsRow row image = HasRow row (recorded image)

-- an image keeps the row
abbrev pub KeepsRow : FileRow → List ℕ → Type 0
KeepsRow row image = HasRow row (kept image)

-- where each crash left the row before, each crash since leaves it: recorded where it was recorded, and kept where it was kept
-- and the old rows of what each crash left were right
pub record RowStays (old new : Past) (row : FileRow) : Type 0 where
  pub recorded : EachImage old (RecordsRow row) → LeavesOnly old new (RecordsRow row)
  pub kept : EachImage old HasRightOldRows → EachImage old (KeepsRow row) → LeavesOnly old new (KeepsRow row)

-- a keeper of this case and its jobs, which has had no fault
pub record IsKept (keeper : KeeperData) (case : CaseData) (list : List Job) (page : ℕ) : Type 0 where
  pub same_case : keeper.case ≡ case
  pub same_list : keeper.list ≡ list
  pub same_page : keeper.page ≡ page
  pub healthy : keeper.healthy ≡ true
