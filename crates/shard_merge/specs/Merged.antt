-- What a merge comes to: its answer, the keeper's board, and its file.
use Rattle.std.specs.Prelude.{◌≡◌, ◌⊎◌, ℕ, ◌+◌, ◌<◌, ◌≤◌, Bool, true, false, List, length, take, Result, Ok, Err, IfOk, OnOk}
use Rattle.fs_outside.specs.Faults.{IsCaused}
use Rattle.fs_outside.specs.Past.{Past, EachImage, LeavesOnly, content}
use Rattle.fs_model.specs.declared.outcomes.Outcome.{Outcome}
use Rattle.fs_model.specs.declared.outcomes.Row.{Row}
use Rattle.fs_model.specs.Job.{HasOutcomes}
use Rattle.fs_model.specs.Outcome.{outcome}
use Rattle.keep_format.specs.KeepFile.{FileRow, added_rows, recorded}
use Rattle.result_keeper.specs.Acceptance.{HasRightOldRows, IsSound}
use Rattle.result_keeper.specs.Batches.{IsBroken, KeepsSome, after_batches, all_rows, appended_all}
use Rattle.result_keeper.specs.Boards.{AreFileable}
use Rattle.result_keeper.specs.Keep.{Gives, HasFile, KeeperData, RowStays}
use Rattle.shard_merge.specs.Gained.{batches_gained, gained}
use Rattle.shard_merge.specs.Union.{Agree, BoardData, IsFirstApart, union}
use Rattle.shard_merge.specs.declared.merging.MergeRefusal.{MergeRefusal}
use Rattle.shard_merge.specs.declared.merging.MergeRefusal.TheVariants.{Disagree, DiskFault}

-- the answer says that the disk failed
abbrev pub is_fault : Result ℕ MergeRefusal → Bool
is_fault (Ok count) = false
is_fault (Err (Disagree job kept other)) = false
is_fault (Err DiskFault) = true

-- the answer says that a job has two outcomes
abbrev pub is_disagreement : Result ℕ MergeRefusal → Bool
is_disagreement (Ok count) = false
is_disagreement (Err (Disagree job kept other)) = true
is_disagreement (Err DiskFault) = false

-- then this holds of them
abbrev pub IfDisagree : Result ℕ MergeRefusal → (ℕ → Outcome → Outcome → Type 0) → Type 0
IfDisagree (Ok count) P = Unit {0}
IfDisagree (Err (Disagree job kept other)) P = P job kept other
IfDisagree (Err DiskFault) P = Unit {0}

-- an image records what the disk's file recorded before, and the rows of the first `count` of these batches
abbrev pub RecordsFirst : Past → List (List Row) → ℕ → List ℕ → Type 0
RecordsFirst before batches count image = recorded image ≡ added_rows (recorded (content before)) (all_rows (take count batches))

-- and the rows of some of these batches, from the first on
pub record RecordsSome (before : Past) (batches : List (List Row)) (image : List ℕ) : Type 0 where
  pub count : ℕ
  pub within : count ≤ length batches
  pub records : RecordsFirst before batches count image

-- A keeper after some of these batches, and not all, the next of which failed: each crash now leaves those on its board
-- recorded, and the next one whole or not at all.
pub record IsCutShort (tells : Type 0) (before now : Past) (old : KeeperData) (batches : List (List Row)) (new : KeeperData) : Type 0 where
  pub count : ℕ
  pub fewer : count < length batches
  pub is : new ≡ record (after_batches old (take count batches)) { healthy = false }
  pub records : tells → EachImage now (λ image. RecordsFirst before batches count image ⊎ RecordsFirst before batches (count + 1) image)

-- each outcome on the board is that of its job's site, in the keeper's case
abbrev pub IsRightFor : KeeperData → BoardData → Type 0
IsRightFor keeper board = HasOutcomes (outcome keeper.case) keeper.list board

-- Another board was merged. What is said of bytes, and of what a crash leaves, holds where the disk tells its bytes.
pub record IsMerged (tells : Type 0) (old new : KeeperData) (other : BoardData) (before now : Past) (faults faults' : ℕ)
    (answer : Result ℕ MergeRefusal) : Type 0 where
  -- a disagreement is the least job that has two outcomes, and then nothing was done
  pub disagree : IfDisagree answer (IsFirstApart old.board other)
  pub same : is_disagreement answer ≡ true → (new ≡ old) × (now ≡ before)
  pub agree : is_disagreement answer ≡ false → Agree old.board other
  -- if the outcomes on both are right, there is none
  pub right : IsRightFor old old.board → IsRightFor old other → is_disagreement answer ≡ false
  -- each place of the board is as it was, or where it was blank as the other board has it
  pub board : OnOk answer (new.board ≡ union old.board other)
  -- the jobs that the other board has and this one lacked have their rows in the file, in batches of a page; that many there are
  pub keeper : OnOk answer (new ≡ after_batches old (batches_gained old other))
  pub number : IfOk answer (λ count. count ≡ length (gained old.board other))
  -- each of these rows names a job that was blank, and no two name the same
  pub names : AreFileable old.list old.board (all_rows (batches_gained old other))
  pub cause : IsCaused (is_fault answer) faults faults'
  -- where the disk failed, the first of these batches and not all, and each crash leaves those that are on the board: recorded,
  -- and kept where the other board is right
  pub cut_short : is_fault answer ≡ true → IsCutShort tells before now old (batches_gained old other) new
  pub broken : is_fault answer ≡ true → IsBroken (tells × IsRightFor old other) before now old (batches_gained old other) new
  pub file : tells → is_fault answer ≡ false → HasFile new now
  pub bytes : tells → OnOk answer (content now ≡ appended_all (content before) old.gate (batches_gained old other))
  -- at any moment a crash leaves some of the batches, from the first on, recorded, and kept where the other board is right
  pub any_moment : tells → LeavesOnly before now (RecordsSome before (batches_gained old other))
  pub any_moment_kept : tells → IsRightFor old other → LeavesOnly before now (KeepsSome before (batches_gained old other))
  -- and where the old rows of the file are right and it gave the board, it gives the board now
  pub kept : tells → IsRightFor old other → EachImage before HasRightOldRows → Gives old.case old.board (content before) → is_fault answer ≡ false
      → EachImage now (Gives new.case new.board)
  -- a sound file stays sound, old rows that are right stay right, and a row that each crash would have left stays
  pub sound : tells → IsRightFor old other → EachImage before IsSound → LeavesOnly before now IsSound
  pub old_rows : tells → IsRightFor old other → EachImage before HasRightOldRows → LeavesOnly before now HasRightOldRows
  pub rows_stay : tells → IsRightFor old other → (row : FileRow) → RowStays before now row
