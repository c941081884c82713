-- What carrying a campaign out comes to, as a run of the concurrent core.
use Rattle.std.specs.Prelude.{All, ◌≡◌, ℕ, Bool, true, false, Option, None, Ok, List, [], ◌∷◌, ◌++◌, length, map}
use Rattle.std.specs.List.{concat}
use Rattle.fs_outside.specs.Past.{Past, EachImage, LeavesOnly, content}
use Rattle.fs_model.specs.declared.outcomes.Outcome.{Outcome}
use Rattle.fs_model.specs.Case.{CaseData}
use Rattle.fs_model.specs.Job.{jobs_in}
use Rattle.fs_model.specs.Outcome.{outcome}
use Rattle.fs_model.specs.Pages.{missing}
use Rattle.def_use.specs.Rows.{rows_of}
use Rattle.result_keeper.specs.Acceptance.{HasRightOldRows, accept}
use Rattle.result_keeper.specs.Keep.{KeeperData, HasFile, Gives, RecordsBoard}
use Rattle.campaign.specs.CarriedOut.{IsCarriedOutAs}
use Rattle.campaign.specs.Perform.{batches_due, is_fault}
use Rattle.campaign.specs.Ready.{ReadyData, IsPrepared, portion_of}
use Rattle.campaign.specs.Portions.{due}
use Rattle.campaign.specs.Shards.{in_shard}
use Rattle.campaign.specs.declared.performing.Performed.{Performed}
use Rattle.event_core.specs.EventCore.{CoreState, after_all}
use Rattle.event_core.specs.PageEvents.{TakesAside, ArePossible, pages_of, taken_aside}
use Rattle.event_core.specs.Stops.{IsStoppedAt, stopped_run}

-- the pages in which the missing jobs of the portion are run, within the budget
abbrev pub pages_due : ReadyData → List (List ℕ)
pages_due ready = pages_of (due (portion_of ready) ready.keeper.board) ready.keeper.page ready.budget

-- Runs of the pages that are done, which stop in the page in flight, lead from one board to another: from each state that is
-- stopped at the one, whoever runs each job, and takes jobs outside the portion aside, every event is possible when its turn comes,
-- and at their end the core is stopped at the other.
abbrev pub Lead : List (List ℕ) → List ℕ → Bool → List (Option Outcome) → List (Option Outcome) → Type 0
Lead done flight whole old new = (worker_of aside_of : ℕ → ℕ) (s : CoreState) → TakesAside (length old) worker_of aside_of → IsStoppedAt old s →
    ArePossible s (stopped_run worker_of aside_of (missing old) done flight whole)
    × IsStoppedAt new (after_all (stopped_run worker_of aside_of (missing old) done flight whole) s)

-- the old rows of what each crash left were right, and the disk's file gave the ready's board
abbrev pub WasKept : Past → ReadyData → Type 0
WasKept before ready = EachImage before HasRightOldRows × Gives ready.keeper.case ready.keeper.board (content before)

-- the image records the board to which such runs lead from the ready's, and gives it where the file's old rows were right
pub record IsLeftBy (before : Past) (ready : ReadyData) (done : List (List ℕ)) (flight : List ℕ) (whole : Bool) (image : List ℕ) : Type 0 where
  pub board : List (Option Outcome)
  pub gate : ℕ
  pub records : RecordsBoard ready.keeper.case board gate image
  pub gives : WasKept before ready → Gives ready.keeper.case board image
  pub lead : Lead done flight whole ready.keeper.board board

-- Some of the pages are done, and the next one was in flight. The board is that of a stop which is not whole; and what a crash
-- now leaves, as what a read gives, is that of one which is, or is not.
pub record IsStoppedInFlight (tells : Type 0) (old new : ReadyData) (before now : Past) : Type 0 where
  pub done : List (List ℕ)
  pub flight : List ℕ
  pub others : List (List ℕ)
  pub are : pages_due old ≡ done ++ flight ∷ others
  pub lead : Lead done flight false old.keeper.board new.keeper.board
  pub next : tells → EachImage now (λ image. (whole : Bool) × IsLeftBy before old done flight whole image)

-- the image is what a stop after some of the pages leaves
pub record IsLeftBehindSome (before : Past) (old : ReadyData) (image : List ℕ) : Type 0 where
  pub done : List (List ℕ)
  pub others : List (List ℕ)
  pub are : pages_due old ≡ done ++ others
  pub left : IsLeftBy before old done [] false image

-- the list of a keeper is that of its case's jobs, and its board has a place for each
pub record HasPlaces (keeper : KeeperData) : Type 0 where
  pub jobs : keeper.list ≡ jobs_in keeper.case
  pub long : length keeper.board ≡ length keeper.list

pub record IsCoreRun (tells : Type 0) (old new : ReadyData) (before now : Past) (answer : Performed) : Type 0 where
  -- unless the disk failed, the run ends after all its pages
  pub ends : is_fault answer ≡ false → Lead (pages_due old) [] false old.keeper.board new.keeper.board
  -- where it failed, that is a stop in the place of a keep
  pub breaks : is_fault answer ≡ true → IsStoppedInFlight tells old new before now
  -- a crash at any moment of the call is a stop
  pub any_moment : tells → LeavesOnly before now (IsLeftBehindSome before old)
  -- the next run may begin here
  pub places : HasPlaces new.keeper

-- so it is whatever a campaign's run says of itself, whether or not runs that meet are one, begun with a keeper whose disk is as
-- its last call left it
abbrev pub CampaignsAreRuns : Type 0 → Type 0
CampaignsAreRuns tells = (meets : Bool) (old new : ReadyData) (before now : Past) (faults faults' : ℕ) (answer : Performed) → HasPlaces old.keeper
    → (tells → HasFile old.keeper before)
    → IsCarriedOutAs meets tells old new before now faults faults' answer → IsCoreRun tells old new before now answer

-- the batches that a campaign appends are the rows of these pages
abbrev pub BatchesArePages : Type 0
BatchesArePages = (ready : ReadyData) → batches_due ready ≡ map (rows_of (outcome ready.keeper.case) (jobs_in ready.keeper.case)) (pages_due ready)

-- a campaign that is made ready begins so, where its board is that of some file
abbrev pub PreparedHasPlaces : Type 0
PreparedHasPlaces = (ready : ReadyData) (case : CaseData) (page spacing : ℕ) (budget : Option ℕ) (shard : Option (ℕ × ℕ)) (file : List ℕ)
    → IsPrepared ready case page spacing budget shard → accept file case ≡ Ok ready.keeper.board → HasPlaces ready.keeper

-- the jobs that are taken aside in the run of these pages are not of the portion; if it has all jobs there are none
pub record AreOfOthers (ready : ReadyData) : Type 0 where
  pub others : All (λ job. (portion_of ready) job ≡ false) (taken_aside (missing ready.keeper.board) (concat (pages_due ready)))
  pub none : ready.shard ≡ None → ready.window ≡ None → taken_aside (missing ready.keeper.board) (concat (pages_due ready)) ≡ []

abbrev pub AsidesAreOfOthers : Type 0
AsidesAreOfOthers = (ready : ReadyData) → AreOfOthers ready
