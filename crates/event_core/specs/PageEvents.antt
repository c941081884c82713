-- A campaign's pages as events of the core, whoever runs each job.
use Rattle.std.specs.Prelude.{All, ℕ, ◌≡◌, ◌+◌, ◌<◌, ◌≤◌, ◌==◌, ◌||◌, Bool, true, false, if◌then◌else◌, Option, Some}
use Rattle.std.specs.Prelude.{None, IsSome, is_some, unwrap_or, List, [], ◌∷◌, ◌++◌, length, map, filter, flat_map}
use Rattle.std.specs.Prelude.{slice_get, ⊤}
use Rattle.std.specs.List.{concat, list_any}
use Rattle.event_core.specs.declared.events.CoreEvent.{CoreEvent}
use Rattle.event_core.specs.declared.events.CoreEvent.TheVariants.{Claim, File, Keep, Resume}
use Rattle.event_core.specs.declared.events.HeldJob.{HeldJob}
use Rattle.fs_model.specs.declared.outcomes.Outcome.{Outcome}
use Rattle.event_core.specs.EventCore.{CoreState, times_listed, next_state, applied, after_all}
use Rattle.fs_model.specs.Pages.{missing, within_budget, pages_within}

-- the numbers of the places that have an outcome, ascending, where the first place has this number
abbrev pub numbers_kept : ℕ → List (Option Outcome) → List ℕ
numbers_kept number [] = []
numbers_kept number (None ∷ board) = numbers_kept (number + 1) board
numbers_kept number (Some outcome ∷ board) = number ∷ numbers_kept (number + 1) board

abbrev pub kept_numbers : List (Option Outcome) → List ℕ
kept_numbers board = numbers_kept 0 board

-- not running, with the jobs kept that have an outcome on the board
abbrev pub stopped_with : List (Option Outcome) → CoreState
stopped_with board = record { jobs = length board; running = false; queue = []; hands = []; filed = []; kept = kept_numbers board }

-- ---- who claims

-- Each job that is run has its worker. A job that is not, and comes to the front of the queue before one that is, is taken
-- aside: it has a worker of its own, who claims it, files nothing, and claims nothing else.
pub record TakesAside (jobs : ℕ) (worker_of aside_of : ℕ → ℕ) : Type 0 where
  pub own : (m n : ℕ) → aside_of m ≡ aside_of n → m ≡ n
  pub apart : (m n : ℕ) → m < jobs → worker_of m ≡ aside_of n → ⊥

-- whoever runs the jobs, there are such workers
abbrev pub AsidesAreThere : Type 0
AsidesAreThere = (jobs : ℕ) (worker_of : ℕ → ℕ) → (aside_of : ℕ → ℕ) × TakesAside jobs worker_of aside_of

-- ---- the events of pages, where each job has its worker

-- these numbers within a budget, in pages of p
abbrev pub pages_of : List ℕ → ℕ → Option ℕ → List (List ℕ)
pages_of numbers p budget = let some = within_budget budget numbers in pages_within (length some) p some

-- a job is claimed and filed
abbrev pub run_events : (ℕ → ℕ) → ℕ → List CoreEvent
run_events worker_of job = Claim (worker_of job) job ∷ File (worker_of job) job ∷ []

-- from this queue on each of these jobs, in order, is run; each other one that comes to the front before it is taken aside
abbrev pub job_events : (ℕ → ℕ) → (ℕ → ℕ) → List ℕ → List ℕ → List CoreEvent
job_events worker_of aside_of [] jobs = []
job_events worker_of aside_of (first ∷ queue) [] = []
job_events worker_of aside_of (first ∷ queue) (job ∷ jobs) =
    if first == job then run_events worker_of job ++ job_events worker_of aside_of queue jobs
    else Claim (aside_of first) first ∷ job_events worker_of aside_of queue (job ∷ jobs)

-- those that are taken aside
abbrev pub taken_aside : List ℕ → List ℕ → List ℕ
taken_aside [] jobs = []
taken_aside (first ∷ queue) [] = []
taken_aside (first ∷ queue) (job ∷ jobs) = if first == job then taken_aside queue jobs else first ∷ taken_aside queue (job ∷ jobs)

-- and the queue then
abbrev pub queue_behind : List ℕ → List ℕ → List ℕ
queue_behind [] jobs = []
queue_behind (first ∷ queue) [] = first ∷ queue
queue_behind (first ∷ queue) (job ∷ jobs) = if first == job then queue_behind queue jobs else queue_behind queue (job ∷ jobs)

-- the jobs of each page, in order, and then all that are filed are kept
abbrev pub page_events : (ℕ → ℕ) → (ℕ → ℕ) → List ℕ → List (List ℕ) → List CoreEvent
page_events worker_of aside_of queue [] = []
page_events worker_of aside_of queue (page ∷ pages) =
    (job_events worker_of aside_of queue page ++ Keep ∷ []) ++ page_events worker_of aside_of (queue_behind queue page) pages

abbrev pub events_of : (ℕ → ℕ) → (ℕ → ℕ) → List ℕ → List (List ℕ) → List CoreEvent
events_of worker_of aside_of queue pages = Resume ∷ page_events worker_of aside_of queue pages

-- each event is possible when its turn comes
abbrev pub ArePossible : CoreState → List CoreEvent → Type 0
ArePossible s [] = ⊤
ArePossible s (event ∷ events) = IsSome (next_state s event) × ArePossible (applied s event) events

-- ---- where they end

-- who takes these jobs aside, with them in the hand
abbrev pub hands_aside : (ℕ → ℕ) → List ℕ → List HeldJob
hands_aside aside_of jobs = map (λ job. record { worker = aside_of job; job = job }) jobs

-- running, with the pages' jobs kept too, and those in a hand that were taken aside; the others that are missing wait in the queue
abbrev pub ended : (ℕ → ℕ) → List (Option Outcome) → List (List ℕ) → CoreState
ended aside_of board pages = record {
  jobs = length board;
  running = true;
  queue = queue_behind (missing board) (concat pages);
  hands = hands_aside aside_of (taken_aside (missing board) (concat pages));
  filed = [];
  kept = kept_numbers board ++ concat pages;
}

abbrev pub has_outcome : List (Option Outcome) → ℕ → Bool
has_outcome board job = is_some (unwrap_or (slice_get board job) None)

abbrev pub is_on : List (List ℕ) → ℕ → Bool
is_on pages job = list_any (λ page. list_any (λ other. other == job) page) pages

-- the events of these pages are possible from the board's jobs on, and then those jobs and the pages' are kept, each once,
-- and no others
pub record IsPageRun (worker_of aside_of : ℕ → ℕ) (board : List (Option Outcome)) (pages : List (List ℕ)) : Type 0 where
  pub possible : ArePossible (stopped_with board) (events_of worker_of aside_of (missing board) pages)
  pub ends : after_all (events_of worker_of aside_of (missing board) pages) (stopped_with board) ≡ ended aside_of board pages
  pub kept : (job : ℕ) → times_listed job (ended aside_of board pages).kept ≡ (if has_outcome board job || is_on pages job then 1 else 0)

-- so it is of the missing jobs that pass a test, as those of a shard do, or all
abbrev pub PagesAreRuns : Type 0
PagesAreRuns = (worker_of aside_of : ℕ → ℕ) (test : ℕ → Bool) (board : List (Option Outcome)) (p : ℕ) (budget : Option ℕ)
    → TakesAside (length board) worker_of aside_of → IsPageRun worker_of aside_of board (pages_of (filter test (missing board)) p budget)

-- the pages, one after the other, are the numbers within the budget
abbrev pub PagesAreAll : Type 0
PagesAreAll = (numbers : List ℕ) (p : ℕ) (budget : Option ℕ) → 1 ≤ p → concat (pages_of numbers p budget) ≡ within_budget budget numbers

-- where these jobs are the first that pass a test, each that is taken aside fails it
abbrev pub OthersAreAside : Type 0
OthersAreAside = (test : ℕ → Bool) (queue jobs others : List ℕ) → filter test queue ≡ jobs ++ others → All (λ job. test job ≡ false) (taken_aside queue jobs)

-- none is taken aside: each job of each page is run, and the others wait
pub record IsPlain (worker_of aside_of : ℕ → ℕ) (pages : List (List ℕ)) (others : List ℕ) : Type 0 where
  pub events : page_events worker_of aside_of (concat pages ++ others) pages ≡ flat_map (λ page. flat_map (run_events worker_of) page ++ Keep ∷ []) pages
  pub aside : taken_aside (concat pages ++ others) (concat pages) ≡ []
  pub queue : queue_behind (concat pages ++ others) (concat pages) ≡ others

-- this holds if the pages' jobs come before all others
abbrev pub NoneIsAside : Type 0
NoneIsAside = (worker_of aside_of : ℕ → ℕ) (pages : List (List ℕ)) (others : List ℕ) → IsPlain worker_of aside_of pages others
