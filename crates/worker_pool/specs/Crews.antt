-- What the workers of a page do together.
use Rattle.std.specs.Prelude.{◌≡◌, ℕ, ◌-◌, ◌^◌, ◌<◌, ◌≤◌, All, List, [], true, length, min, sum_by, slice_index_or}
use Rattle.job_queue.specs.declared.Filler.{Filler}
use Rattle.job_queue.specs.Pages.{view_of, spent, AreDistinct}
use Rattle.job_queue.specs.Hands.{page_size_of, hands_of, IsFillerOf, IsSettledFiller, IsOut, claims_of, has_ended, hand_view}
use Rattle.experiment.specs.Jobs.{RoseAs}
use Rattle.worker_pool.specs.declared.own_desk.CaseLedger.{Ghosts}
use Rattle.worker_pool.specs.declared.shared.Shared.{Shared}
use Rattle.worker_pool.specs.declared.worker.Worker.{Worker}
use Rattle.worker_pool.specs.Workers.{jobs_of_all, has_shortcuts, IsShared, IsWorkerOf, rows_run, steps_in, taken_of}

-- its hand is not out
abbrev pub IsIdle : {K : Type 0} {G : Ghosts K} → Shared K G → Worker K → Type 0
IsIdle s w = IsWorkerOf s w × (hand_view w.hand ≡ spent)

-- These workers, all or some of the queue's, may run a page of these numbers: no hand is out, and each number is of a job and is there once.
pub record MayRun {K : Type 0} {G : Ghosts K} (s : Shared K G) (filler : Filler) (workers : List (Worker K)) (page : List ℕ) : Type 0 where
  pub shared : IsShared s
  pub own : IsFillerOf s.jobs filler
  pub settled : IsSettledFiller filler
  pub some : 0 < length workers
  pub hands : length workers ≤ hands_of s.jobs
  pub idle : All (λ w. IsIdle s w) workers
  pub apart : AreDistinct page
  pub known : All (λ n. n < length (jobs_of_all s)) page
  pub fits : length page ≤ page_size_of s.jobs

-- It may work: all is of one case, and its hand is out and has claimed nothing of its page, whose numbers are of jobs.
pub record IsSent {K : Type 0} {G : Ghosts K} (s : Shared K G) (w : Worker K) : Type 0 where
  pub shared : IsShared s
  pub known : All (λ n. n < length (jobs_of_all s)) (hand_view w.hand).page
  pub worker : IsWorkerOf s w
  pub sent : hand_view w.hand ≡ view_of 1 (hand_view w.hand).page [] 0 1
  pub none : claims_of w.hand ≡ []

-- what it gave to the desk are the rows of its claims, in order
abbrev pub HasOffered : {K : Type 0} {G : Ghosts K} → Shared K G → Worker K → Type 0
HasOffered s w = w.tally.offered ≡ rows_run s (claims_of w.hand)

-- its hand is out and has its mark
abbrev pub IsDone : {K : Type 0} {G : Ghosts K} → Shared K G → Worker K → Type 0
IsDone s w = IsWorkerOf s w × IsOut w.hand × (has_ended w.hand ≡ true) × HasOffered s w

-- its hand was taken back
abbrev pub IsBack : {K : Type 0} {G : Ghosts K} → Shared K G → Worker K → Type 0
IsBack s w = IsIdle s w × HasOffered s w

-- its machine took the steps of its claims, and no others; or, where the workers have shortcuts, at most as many
abbrev pub StepsRise : {K : Type 0} {G : Ghosts K} → Shared K G → Worker K → Worker K → Type 0
StepsRise s v w = RoseAs (has_shortcuts s) (length (claims_of w.hand)) (taken_of v) (steps_in s (claims_of w.hand)) (taken_of w)

-- so did each worker's
abbrev pub AllRise : {K : Type 0} {G : Ghosts K} → Shared K G → List (Worker K) → List (Worker K) → Type 0
AllRise {K} {G} s vs ws = (k : ℕ) (d : Worker K) → k < length vs → StepsRise s (slice_index_or vs k d) (slice_index_or ws k d)

-- each worker's machine has taken as many steps in both lists
abbrev pub SameTaken : {K : Type 0} → List (Worker K) → List (Worker K) → Type 0
SameTaken {K} vs ws = (k : ℕ) (d : Worker K) → k < length vs → taken_of (slice_index_or ws k d) ≡ taken_of (slice_index_or vs k d)

-- and each worker's hand has the same claims
abbrev pub SameClaims : {K : Type 0} → List (Worker K) → List (Worker K) → Type 0
SameClaims {K} vs ws = (k : ℕ) (d : Worker K) → k < length vs → claims_of (slice_index_or ws k d).hand ≡ claims_of (slice_index_or vs k d).hand

-- each worker's number is its place
abbrev pub AreNumbered : {K : Type 0} → List (Worker K) → Type 0
AreNumbered {K} ws = (k : ℕ) (d : Worker K) → k < length ws → (slice_index_or ws k d).number ≡ k

-- the steps of all machines, up to the most that a number of 64 bits holds
abbrev pub taken_by_all : {K : Type 0} → List (Worker K) → ℕ
taken_by_all workers = min (sum_by (λ w. taken_of w) workers) (2 ^ 64 - 1)
