-- What carrying a campaign out comes to: its answer, its board, its file, and its steps.
use Rattle.std.specs.Prelude.{Bool, ◌≡◌, ℕ, ◌+◌, if◌then◌else◌, true, false, length, drop, []}
use Rattle.fs_outside.specs.Faults.{IsCaused}
use Rattle.fs_outside.specs.Past.{Past, content, EachImage, LeavesOnly}
use Rattle.fs_model.specs.declared.outcomes.Outcome.{Outcome}
use Rattle.fs_model.specs.declared.outcomes.Outcome.TheVariants.{NoEffect}
use Rattle.fs_model.specs.AccessLog.{log, dead}
use Rattle.fs_model.specs.Job.{jobs_in, HasOutcomes}
use Rattle.keep_format.specs.KeepFile.{FileRow}
use Rattle.result_keeper.specs.Acceptance.{HasRightOldRows, IsSound}
use Rattle.fs_model.specs.Filling.{board_filled, board_total}
use Rattle.fs_model.specs.Outcome.{outcome, count, total_at, same_outcome}
use Rattle.fs_model.specs.Pages.{within_budget}
use Rattle.def_use.specs.Board.{kept_of}
use Rattle.result_keeper.specs.Keep.{Gives, HasFile, RowStays}
use Rattle.experiment.specs.Jobs.{RoseAs}
use Rattle.result_keeper.specs.Batches.{IsBroken, KeepsSome, after_batches, appended_all}
use Rattle.campaign.specs.Perform.{IfDone, IfStopped, IsOver, IsShort, IsStopped, batches_due, is_fault}
use Rattle.campaign.specs.Ready.{ReadyData, portion_of}
use Rattle.campaign.specs.Portions.{due}
use Rattle.worker_pool.specs.Steps.{steps_of_numbers}
use Rattle.campaign.specs.declared.performing.Performed.{Performed}

-- The portion's jobs that are missing were run within the budget. What is said of bytes, and of what a crash leaves, holds where the
-- disk tells its bytes. `meets` says whether runs may end at known states, so that fewer steps are taken.
pub record IsCarriedOutAs (meets : Bool) (tells : Type 0) (old new : ReadyData) (before now : Past) (faults faults' : ℕ) (answer : Performed) : Type 0 where
  -- where each outcome that was there is right, the totals are the counts of all sites
  pub counts : HasOutcomes (outcome old.keeper.case) (jobs_in old.keeper.case) old.keeper.board
      → IfDone answer (λ totals. (o : Outcome) → total_at totals o ≡ count old.keeper.case o)
  -- whatever was there, they are the weights on the board with its blanks filled
  pub totals : IfDone answer (λ totals. (o : Outcome) → total_at totals o
      ≡ board_total (jobs_in old.keeper.case) (board_filled (outcome old.keeper.case) (jobs_in old.keeper.case) old.keeper.board) o
      + (if same_outcome NoEffect o then dead (log old.keeper.case) else 0))
  -- it is done if no job is left, because of the budget or of the portion, and then no job is missing
  pub done : IfDone answer (λ _. IsShort old.budget (portion_of old) old.keeper.board → ⊥)
  pub whole : IfDone answer (λ _. new.keeper.board ≡ board_filled (outcome old.keeper.case) (jobs_in old.keeper.case) old.keeper.board)
  -- else it stopped: jobs are left, and this many outcomes are on the board
  pub stopped : IfStopped answer (IsStopped old.budget (portion_of old) old.keeper.board)
  pub counted : IfStopped answer (λ kept jobs. kept ≡ kept_of new.keeper.board)
  -- with no budget reached each job of the portion has an outcome then
  pub ended : is_fault answer ≡ false → (IsOver old.budget (portion_of old) old.keeper.board → ⊥) → due (portion_of old) new.keeper.board ≡ []
  -- with one reached, the jobs of the portion past it are left; and the board has as many outcomes more as jobs were run
  pub left : is_fault answer ≡ false → due (portion_of old) new.keeper.board
      ≡ drop (length (within_budget old.budget (due (portion_of old) old.keeper.board))) (due (portion_of old) old.keeper.board)
  pub more : is_fault answer ≡ false → kept_of new.keeper.board
      ≡ kept_of old.keeper.board + length (within_budget old.budget (due (portion_of old) old.keeper.board))
  -- unless the disk failed
  pub cause : IsCaused (is_fault answer) faults faults'
  -- the portion's missing jobs within the budget have their rows in the file, in batches of a page
  pub keeper : is_fault answer ≡ false → new.keeper ≡ after_batches old.keeper (batches_due old)
  -- where the disk failed, the first of these batches and not all, and each crash leaves those that are on the board
  pub broken : is_fault answer ≡ true → IsBroken tells before now old.keeper (batches_due old) new.keeper
  pub file : tells → is_fault answer ≡ false → HasFile new.keeper now
  pub bytes : tells → is_fault answer ≡ false → content now ≡ appended_all (content before) old.keeper.gate (batches_due old)
  pub spacing : new.spacing ≡ old.spacing
  pub shortcuts : new.shortcuts ≡ old.shortcuts
  pub budget : new.budget ≡ old.budget
  pub shard : new.shard ≡ old.shard
  pub window : new.window ≡ old.window
  -- The steps of one run of each job whose rows were appended, so that no job is run twice. Where runs end at known states: at least one step a job, and at
  -- most as many as these, of the machines that run jobs.
  pub taken : is_fault answer ≡ false → RoseAs meets (length (within_budget old.budget (due (portion_of old) old.keeper.board))) old.taken
      (steps_of_numbers old.keeper.case old.spacing (jobs_in old.keeper.case) (within_budget old.budget (due (portion_of old) old.keeper.board)))
      new.taken
  -- at any moment a crash leaves some of the batches, from the first on, and at the end all
  pub any_moment : tells → LeavesOnly before now (KeepsSome before (batches_due old))
  -- and where the old rows of the file are right and it gave the board, it gives the board now
  pub kept : tells → EachImage before HasRightOldRows → Gives old.keeper.case old.keeper.board (content before) → is_fault answer ≡ false
      → EachImage now (Gives new.keeper.case new.keeper.board)
  -- a sound file stays sound, old rows that are right stay right, and a row that each crash would have left stays
  pub sound : tells → EachImage before IsSound → LeavesOnly before now IsSound
  pub old_rows : tells → EachImage before HasRightOldRows → LeavesOnly before now HasRightOldRows
  pub rows_stay : tells → (row : FileRow) → RowStays before now row

-- just the steps of these jobs were taken
abbrev pub IsCarriedOut : Type 0 → ReadyData → ReadyData → Past → Past → ℕ → ℕ → Performed → Type 0
IsCarriedOut = IsCarriedOutAs false

-- at most these steps were taken, and one for each job at least
abbrev pub IsCarriedOutWithin : Type 0 → ReadyData → ReadyData → Past → Past → ℕ → ℕ → Performed → Type 0
IsCarriedOutWithin = IsCarriedOutAs true
