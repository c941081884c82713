-- Runs that stop: some pages are kept, and one may be in flight.
use Rattle.std.specs.Prelude.{ℕ, ◌≡◌, ◌||◌, Bool, false, if◌then◌else◌, Option, List, [], ◌∷◌, ◌++◌, length, filter}
use Rattle.std.specs.List.{concat}
use Rattle.event_core.specs.declared.events.CoreEvent.{CoreEvent}
use Rattle.event_core.specs.declared.events.CoreEvent.TheVariants.{Stop}
use Rattle.fs_model.specs.declared.outcomes.Outcome.{Outcome}
use Rattle.event_core.specs.EventCore.{CoreState, times_listed, after_all}
use Rattle.fs_model.specs.Pages.{missing}
use Rattle.event_core.specs.PageEvents.{TakesAside, job_events, queue_behind, events_of, ArePossible, has_outcome, is_on}

-- the core is stopped, and these of its jobs are kept, each once, and no others
pub record IsStoppedWith (jobs : ℕ) (is_kept : ℕ → Bool) (s : CoreState) : Type 0 where
  pub same_jobs : s.jobs ≡ jobs
  pub stopped : s.running ≡ false
  pub no_queue : s.queue ≡ []
  pub no_hands : s.hands ≡ []
  pub no_filed : s.filed ≡ []
  pub kept : (job : ℕ) → times_listed job s.kept ≡ (if is_kept job then 1 else 0)

-- those that have an outcome on the board
abbrev pub IsStoppedAt : List (Option Outcome) → CoreState → Type 0
IsStoppedAt board s = IsStoppedWith (length board) (has_outcome board) s

-- The pages that are done are claimed, filed and kept. Then each job of the page in flight is claimed and filed, and the run
-- stops in the place of its keep. Jobs that come to the front of the queue before these are taken aside.
abbrev pub stopped_run : (ℕ → ℕ) → (ℕ → ℕ) → List ℕ → List (List ℕ) → List ℕ → Bool → List CoreEvent
stopped_run worker_of aside_of queue done flight whole =
    events_of worker_of aside_of queue done ++ (job_events worker_of aside_of (queue_behind queue (concat done)) flight ++ Stop whole ∷ [])

-- the pages that are kept then: a whole stop keeps the one in flight too
abbrev pub pages_kept : List (List ℕ) → List ℕ → Bool → List (List ℕ)
pages_kept done flight whole = if whole then done ++ flight ∷ [] else done

-- each event is possible when its turn comes, and at their end the jobs are kept that were, and those of the pages
pub record IsStoppedRun (worker_of aside_of : ℕ → ℕ) (board : List (Option Outcome)) (done : List (List ℕ)) (flight : List ℕ) (whole : Bool)
    (s : CoreState) : Type 0 where
  pub possible : ArePossible s (stopped_run worker_of aside_of (missing board) done flight whole)
  pub ends : IsStoppedWith (length board) (λ job. has_outcome board job || is_on (pages_kept done flight whole) job)
      (after_all (stopped_run worker_of aside_of (missing board) done flight whole) s)

-- so it is wherever the pages, one after the other, are the first that pass a test of the jobs that the board misses, or the
-- first of all
abbrev pub StopsAreRuns : Type 0
StopsAreRuns = (worker_of aside_of : ℕ → ℕ) (test : ℕ → Bool) (board : List (Option Outcome)) (done : List (List ℕ)) (flight others : List ℕ)
    (whole : Bool) (s : CoreState)
    → TakesAside (length board) worker_of aside_of → filter test (missing board) ≡ concat done ++ (flight ++ others) → IsStoppedAt board s
    → IsStoppedRun worker_of aside_of board done flight whole s
