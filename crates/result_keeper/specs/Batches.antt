-- Batches of rows that one keeper appends, one after the other.
use Rattle.std.specs.Prelude.{◌≡◌, ◌⊎◌, ℕ, ◌+◌, ◌*◌, ◌<◌, ◌≤◌, false, List, [], ◌∷◌, ◌++◌, length, take}
use Rattle.fs_outside.specs.Past.{Past, EachImage, content}
use Rattle.fs_model.specs.declared.outcomes.Row.{Row}
use Rattle.keep_format.specs.KeepFile.{rows_held}
use Rattle.result_keeper.specs.Boards.{filed}
use Rattle.result_keeper.specs.Acceptance.{HasRightOldRows}
use Rattle.result_keeper.specs.Keep.{HoldsMore, KeeperData, appended}

-- the rows of batches, one after the other
abbrev pub all_rows : List (List Row) → List Row
all_rows [] = []
all_rows (rows ∷ more) = rows ++ all_rows more

-- the place of the closed gate after these batches, if it was here before
abbrev pub gate_behind : ℕ → List (List Row) → ℕ
gate_behind gate [] = gate
gate_behind gate (rows ∷ more) = gate_behind (gate + (3 + 10 * length rows)) more

-- a file with these batches appended, one after the other, from its closed gate on
abbrev pub appended_all : List ℕ → ℕ → List (List Row) → List ℕ
appended_all file gate [] = file
appended_all file gate (rows ∷ more) = appended_all (appended file gate rows) (gate + (3 + 10 * length rows)) more

-- a keeper after these batches
abbrev pub after_batches : KeeperData → List (List Row) → KeeperData
after_batches keeper batches =
    record keeper { board = filed keeper.list keeper.board (all_rows batches); gate = gate_behind keeper.gate batches }

-- an image holds what the disk's file held before, and the rows of the first `count` of these batches
abbrev pub KeepsFirst : Past → List (List Row) → ℕ → List ℕ → Type 0
KeepsFirst before batches count image =
    HoldsMore (EachImage before HasRightOldRows) (rows_held (content before)) (all_rows (take count batches)) image

-- A keeper after some of these batches, and not all, the next of which failed: each crash now leaves those on its board, and
-- the next one whole or not at all.
pub record IsBroken (tells : Type 0) (before now : Past) (old : KeeperData) (batches : List (List Row)) (new : KeeperData) : Type 0 where
  pub count : ℕ
  pub fewer : count < length batches
  pub is : new ≡ record (after_batches old (take count batches)) { healthy = false }
  pub images : tells → EachImage now (λ image. KeepsFirst before batches count image ⊎ KeepsFirst before batches (count + 1) image)

-- an image holds what the disk's file held before, and the rows of some of these batches, from the first on
pub record KeepsSome (before : Past) (batches : List (List Row)) (image : List ℕ) : Type 0 where
  pub count : ℕ
  pub within : count ≤ length batches
  pub keeps : KeepsFirst before batches count image
