-- What a worker does.
use Rattle.std.specs.Prelude.{All, Bool, IfSome, Option, Some, None, is_some, ◌≡◌, ℕ, ◌%◌, ◌<◌, ◌≤◌, List, length, drop, vec_capacity}
use Rattle.crossbeam_utils.specs.Padded.{padded_value}
use Rattle.fs_model.specs.declared.sites.Job.{Job}
use Rattle.fs_model.specs.declared.outcomes.Row.{Row}
use Rattle.fs_model.specs.Case.{CaseData}
use Rattle.fs_model.specs.AccessLog.{log}
use Rattle.fs_model.specs.Job.{jobs_of}
use Rattle.fs_model.specs.Outcome.{outcome}
use Rattle.golden_trace.specs.Goldens.{IsGolden}
use Rattle.snapshot_store.specs.Stored.{SnapsData}
use Rattle.job_queue.specs.declared.Hand.{Hand}
use Rattle.job_queue.specs.Hands.{page_size_of, hand_view, IsHandOf, claims_of}
use Rattle.worker_pool.specs.declared.worker.TheConstants.{MOST_WAITING}
use Rattle.worker_pool.specs.declared.own_desk.CaseLedger.{Ghosts}
use Rattle.worker_pool.specs.declared.shared.Shared.{Shared}
use Rattle.worker_pool.specs.declared.worker.Worker.{Worker}
use Rattle.def_use.specs.Rows.{rows_of}
use Rattle.worker_pool.specs.Steps.{steps_of_numbers}

-- the case that all workers run, its jobs, and the distance of the kept states
abbrev pub shared_case : {K : Type 0} {G : Ghosts K} → Shared K G → CaseData
shared_case s = s.case.now

abbrev pub jobs_of_all : {K : Type 0} {G : Ghosts K} → Shared K G → List Job
jobs_of_all s = s.list.now.list

abbrev pub spacing_of : {K : Type 0} {G : Ghosts K} → Shared K G → ℕ
spacing_of s = s.snaps.spacing

-- states of the golden run of a case, at a distance that divides another one
pub record IsNear (c : CaseData) (count spacing : ℕ) (near : SnapsData) : Type 0 where
  pub same_case : near.case ≡ c
  pub same_count : near.count ≡ count
  pub divides : spacing % near.spacing ≡ 0

-- these states, or others where there are none
abbrev pub nearest_of : Option SnapsData → SnapsData → SnapsData
nearest_of None snaps = snaps
nearest_of (Some near) snaps = near

-- the kept states that known runs use
abbrev pub near_of : {K : Type 0} {G : Ghosts K} → Shared K G → SnapsData
near_of s = nearest_of s.near s.snaps

-- the workers have shortcuts: there are tables of what they have learned
abbrev pub has_shortcuts : {K : Type 0} {G : Ghosts K} → Shared K G → Bool
has_shortcuts s = is_some s.learned

-- all of it is of that case
pub record IsShared {K : Type 0} {G : Ghosts K} (s : Shared K G) : Type 0 where
  pub golden_is : IsGolden s.case.now s.golden.now
  pub list_is : s.list.now ≡ jobs_of (log s.case.now)
  pub snaps_case : s.snaps.case ≡ s.case.now
  pub snaps_count : s.snaps.count ≡ length s.golden.now.touches
  pub near : IfSome s.near (λ near. IsNear s.case.now (length s.golden.now.touches) s.snaps.spacing near)
  pub learned : IfSome s.learned (λ l. (l.snaps ≡ near_of s) × (l.golden ≡ s.golden.now))

-- the steps that a worker's machine took
abbrev pub taken_of : {K : Type 0} → Worker K → ℕ
taken_of w = (padded_value w.machine).taken

-- what a worker keeps for known runs, where memory was found for it, is of this case
abbrev pub IsKnownIn : {K : Type 0} {G : Ghosts K} → Shared K G → Option CaseData → Type 0
IsKnownIn s known = IfSome known (λ k. k ≡ shared_case s)

-- a worker of this queue and this case, with room for the rows of a page and for those that wait
abbrev pub IsWorkerOf : {K : Type 0} {G : Ghosts K} → Shared K G → Worker K → Type 0
IsWorkerOf s w = IsHandOf s.jobs w.hand × (page_size_of s.jobs ≤ w.tally.page) × (w.tally.case ≡ shared_case s)
    × ((padded_value w.machine).case ≡ shared_case s) × (MOST_WAITING ≤ vec_capacity w.waiting) × IsKnownIn s w.known

-- the numbers that a hand has claimed since it was another
abbrev pub claimed_since : {K : Type 0} → Worker K → Worker K → List ℕ
claimed_since v w = drop (length (claims_of v.hand)) (claims_of w.hand)

-- The first `ran` of a hand's claims were run. The others are numbers of jobs, and with them it has no more than the page.
pub record IsAhead {K : Type 0} {G : Ghosts K} (s : Shared K G) (hand : Hand) (ran : ℕ) : Type 0 where
  pub behind : ran ≤ length (claims_of hand)
  pub known : All (λ n. n < length (jobs_of_all s)) (drop ran (claims_of hand))
  pub within : ran < length (claims_of hand) → length (claims_of hand) ≤ length (hand_view hand).page

-- the rows of the jobs of these numbers, and the steps that these jobs take
abbrev pub rows_run : {K : Type 0} {G : Ghosts K} → Shared K G → List ℕ → List Row
rows_run s numbers = rows_of (outcome (shared_case s)) (jobs_of_all s) numbers

abbrev pub steps_in : {K : Type 0} {G : Ghosts K} → Shared K G → List ℕ → ℕ
steps_in s numbers = steps_of_numbers (shared_case s) (spacing_of s) (jobs_of_all s) numbers
