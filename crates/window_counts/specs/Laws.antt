-- What is proved of windows.
use Rattle.std.specs.Prelude.{ℕ, ◌≡◌, ◌+◌, ◌*◌, ◌<◌, ◌==◌, ◌&&◌, Bool, true, if◌then◌else◌, List, length, filter, sum_by, All}
use Rattle.std.specs.List.{range_with_len}
use Rattle.fs_model.specs.declared.sites.Job.{Job}
use Rattle.fs_model.specs.declared.outcomes.Outcome.{Outcome}
use Rattle.fs_model.specs.declared.outcomes.Outcome.TheVariants.{NoEffect}
use Rattle.fs_model.specs.Case.{CaseData}
use Rattle.fs_model.specs.Run.{cycles}
use Rattle.fs_model.specs.Outcome.{outcome, count, same_outcome}
use Rattle.fs_model.specs.Laws.{bits_of_all}
use Rattle.fs_model.specs.AccessLog.{AccessLog, log, all_sites, is_job, job_of}
use Rattle.fs_model.specs.Job.{job_list, jobs_in, site_of, total}
use Rattle.window_counts.specs.Windows.{in_window, window_len, window_sites, window_count, window_dead, clipped_jobs, IsDue, weight_inside}

-- The count of an outcome in a window is the sum of the clipped weights of the jobs that have it. To no effect, the number of the
-- window's dead sites is added.
abbrev pub PrunedWindow : Type 0
PrunedWindow = (c : CaseData) (window : List Bool) (o : Outcome) →
    window_count c window o
    ≡ total (outcome c) (clipped_jobs window (jobs_in c)) o + (if same_outcome NoEffect o then window_dead (log c) window else 0)

-- the clipped weights and the dead sites of a window are one site for each of its cycles and each bit
abbrev pub WindowWhole : Type 0
WindowWhole = (l : AccessLog) (window : List Bool) → length window ≡ l.cycles →
    sum_by (λ (job : Job). job.weight) (clipped_jobs window (job_list l)) + window_dead l window ≡ window_len window * bits_of_all l.ram l.pc

-- and these are its sites
abbrev pub WindowSize : Type 0
WindowSize = (c : CaseData) (window : List Bool) → length window ≡ cycles c →
    length (window_sites c window) ≡ window_len window * bits_of_all (length c.ram) c.pc_cell

-- a job is due exactly where its clipped weight is not 0
abbrev pub DueWeight : Type 0
DueWeight = (window : List Bool) (job : Job) → (IsDue window job → 0 < weight_inside window job) × (0 < weight_inside window job → IsDue window job)

-- The clipped weight of a job is the number of its sites in the window.
abbrev pub SitesInside : Type 0
SitesInside = (l : AccessLog) (window : List Bool) → All (λ job.
    length (filter (λ site. is_job (job_of l site) (site_of job) && in_window window site.cycle) (all_sites l)) ≡ weight_inside window job) (job_list l)

-- each of the first n cycles is in exactly one of the first `many` windows
abbrev pub IsTiling : ℕ → (ℕ → List Bool) → ℕ → Type 0
IsTiling n windows many =
    (t : ℕ) → t < n → (at : ℕ) × (at < many) × ((k : ℕ) → in_window (windows k) t ≡ (at == k))

-- the counts of such windows add up to those of the whole
abbrev pub WindowsAddUp : Type 0
WindowsAddUp = (c : CaseData) (windows : ℕ → List Bool) (many : ℕ) (o : Outcome) → IsTiling (cycles c) windows many →
    sum_by (λ k. window_count c (windows k) o) (range_with_len 0 many) ≡ count c o

-- a window with all cycles has the counts of the whole
abbrev pub AllCycles : Type 0
AllCycles = (c : CaseData) (window : List Bool) (o : Outcome) → ((t : ℕ) → t < cycles c → in_window window t ≡ true) → window_count c window o ≡ count c o
