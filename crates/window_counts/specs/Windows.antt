-- Windows: sets of cycles of a run. A window has a Boolean for each cycle, which says whether the cycle is in it.
use Rattle.std.specs.Prelude.{ℕ, ◌≡◌, ◌+◌, ◌-◌, ◌<◌, ◌≤◌, ◌&&◌, Bool, true, false, Option, Some, List, map, length, filter, slice_index_or, slice_get, nat_le}
use Rattle.std.specs.List.{range_with_len}
use Rattle.fs_model.specs.declared.sites.Site.{Site}
use Rattle.fs_model.specs.declared.sites.Job.{Job}
use Rattle.fs_model.specs.declared.outcomes.Outcome.{Outcome}
use Rattle.fs_model.specs.Case.{CaseData}
use Rattle.fs_model.specs.Outcome.{outcome, same_outcome}
use Rattle.fs_model.specs.Site.{sites_of}
use Rattle.fs_model.specs.AccessLog.{AccessLog}
use Rattle.fs_model.specs.Job.{site_of}
use Rattle.def_use.specs.Board.{HasOutcomeAt}
use Rattle.site_counts.specs.Counts.{dead_where}

unfoldable pub in_window : List Bool → ℕ → Bool
in_window window cycle = slice_index_or window cycle false

abbrev pub IsInWindow : List Bool → ℕ → Type 0
IsInWindow window cycle = in_window window cycle ≡ true

-- the number of cycles from start on and before end that are in the window
unfoldable pub cycles_between : List Bool → ℕ → ℕ → ℕ
cycles_between window start end = length (filter (in_window window) (range_with_len start (end - start)))

-- the number of cycles from the first to the last that are in the window
abbrev pub cycles_inside : List Bool → ℕ → ℕ → ℕ
cycles_inside window first last = cycles_between window first (last + 1)

-- the number of all cycles that are in the window
abbrev pub window_len : List Bool → ℕ
window_len window = cycles_between window 0 (length window)

-- of a run with this number of cycles, those from the first to the last
abbrev pub cycle_window : ℕ → ℕ → ℕ → List Bool
cycle_window cycles first last = map (λ cycle. nat_le first cycle && nat_le cycle last) (range_with_len 0 cycles)

-- the cycles whose instruction has an address from the first to the last
abbrev pub address_window : List ℕ → ℕ → ℕ → List Bool
address_window pcs first last = map (λ pc. nat_le first pc && nat_le pc last) pcs

-- ---- sites

-- the sites of a case whose cycle is in the window
unfoldable pub window_sites : CaseData → List Bool → List Site
window_sites c window = filter (λ site. in_window window site.cycle) (sites_of c)

-- the number of sites with this outcome whose cycle is in the window
unfoldable pub window_count : CaseData → List Bool → Outcome → ℕ
window_count c window o = length (filter (λ site. in_window window site.cycle && same_outcome (outcome c site) o) (sites_of c))

-- the number of dead sites whose cycle is in the window
abbrev pub window_dead : AccessLog → List Bool → ℕ
window_dead l window = dead_where l (λ site. in_window window site.cycle)

-- ---- jobs

-- The sites of a job have its cell and its bit, and their cycles are as many as its weight, with its own as the last: how many of
-- these cycles are in the window.
abbrev pub weight_inside : List Bool → Job → ℕ
weight_inside window job = cycles_inside window (job.cycle + 1 - job.weight) job.cycle

-- at least one of them is
pub record IsDue (window : List Bool) (job : Job) : Type 0 where
  pub cycle : ℕ
  pub first : job.cycle + 1 - job.weight ≤ cycle
  pub last : cycle ≤ job.cycle
  pub inside : IsInWindow window cycle

-- a job with this number for its weight
unfoldable pub clipped : List Bool → Job → Job
clipped window job = record job { weight = weight_inside window job }

abbrev pub clipped_jobs : List Bool → List Job → List Job
clipped_jobs window list = map (clipped window) list

-- ---- boards

-- the job of this number is due
abbrev pub IsDueAt : List Bool → List Job → ℕ → Type 0
IsDueAt window list number = (job : Job) × (slice_get list number ≡ Some job) × IsDue window job

-- each due job of the first n has an outcome
abbrev pub HasDueBelow : List Bool → List Job → List (Option Outcome) → ℕ → Type 0
HasDueBelow window list board n = (i : ℕ) (job : Job) → i < n → slice_get list i ≡ Some job → IsDue window job → HasOutcomeAt board i

-- each outcome of a due job is that of its site
abbrev pub HasDueOutcomes : List Bool → (Site → Outcome) → List Job → List (Option Outcome) → Type 0
HasDueOutcomes window outcomes list board =
    (i : ℕ) (job : Job) (o : Outcome) → slice_get list i ≡ Some job → IsDue window job → slice_get board i ≡ Some (Some o) → o ≡ outcomes (site_of job)
