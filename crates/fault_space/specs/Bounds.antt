-- How many cells an instruction touches at most, how many jobs it makes, and how many jobs and sites a case has.
use Rattle.std.specs.Prelude.{ℕ, ◌≡◌, ◌+◌, ◌*◌, ◌^◌, ◌<◌, ◌≤◌, ◌==◌, ◌&&◌, false, if◌then◌else◌, List, length, filter, is_some}
use Rattle.fs_model.specs.declared.sites.Job.{Job}
use Rattle.fs_model.specs.Case.{CaseData, IsCase}
use Rattle.fs_model.specs.Site.{cells, sites_of}
use Rattle.fs_model.specs.Touch.{touch}
use Rattle.fs_model.specs.Run.{after, cycles}
use Rattle.fs_model.specs.Job.{jobs_in}

-- the cells that the instruction at a cycle touches
abbrev pub touched : CaseData → ℕ → List ℕ
touched c t = filter (λ cell. is_some (touch c (after c t).core cell)) (cells c.pc_cell (length c.ram))

-- the jobs that it makes
abbrev pub made : CaseData → ℕ → List Job
made c t = filter (λ job. job.cycle == t) (jobs_in c)

-- six cells, the pc if it is one, and the four of the word itself if code may be in RAM
abbrev pub most_cells : CaseData → ℕ
most_cells c = 6 + (if c.pc_cell then 1 else 0) + (if c.ram_code then 4 else 0)

-- the bits of two registers, or of one and a word; those of the pc; those of the word itself
abbrev pub most_jobs : CaseData → ℕ
most_jobs c = 64 + (if c.pc_cell then 32 else 0) + (if c.ram_code then 32 else 0)

abbrev pub FewCells : Type 0
FewCells = (c : CaseData) (t : ℕ) → length (touched c t) ≤ most_cells c

abbrev pub FewJobs : Type 0
FewJobs = (c : CaseData) (t : ℕ) → length (made c t) ≤ most_jobs c

-- the jobs of all instructions
abbrev pub AllJobs : Type 0
AllJobs = (c : CaseData) → length (jobs_in c) ≤ cycles c * most_jobs c

-- the golden run has no more instructions than the limit
abbrev pub InLimit : Type 0
InLimit = (c : CaseData) → cycles c ≤ c.limit

-- fewer than 2 ^ 31 jobs; at most 2 ^ 31 if the pc is a cell and code may be in RAM too
abbrev pub JobLimit : Type 0
JobLimit = (c : CaseData) → IsCase c → (length (jobs_in c) ≤ 2 ^ 31) × ((c.pc_cell && c.ram_code) ≡ false → length (jobs_in c) < 2 ^ 31)

abbrev pub SiteLimit : Type 0
SiteLimit = (c : CaseData) → IsCase c → length (sites_of c) < 2 ^ 44
