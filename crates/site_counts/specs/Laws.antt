-- What is proved of counts of some of the sites.
use Rattle.std.specs.Prelude.{ℕ, ◌≡◌, ◌+◌, ◌*◌, ◌<◌, ◌==◌, ◌&&◌, Bool, true, false, if◌then◌else◌, length, filter, sum_by}
use Rattle.std.specs.List.{range_with_len}
use Rattle.fs_model.specs.declared.sites.Site.{Site}
use Rattle.fs_model.specs.declared.outcomes.Outcome.{Outcome}
use Rattle.fs_model.specs.declared.outcomes.Outcome.TheVariants.{NoEffect}
use Rattle.fs_model.specs.Case.{CaseData}
use Rattle.fs_model.specs.Outcome.{outcome, count, same_outcome}
use Rattle.fs_model.specs.AccessLog.{AccessLog, log, all_sites, dead}
use Rattle.fs_model.specs.Job.{job_list}
use Rattle.site_counts.specs.Counts.{count_where, dead_where, total_where, weight_where, bits_where, spread}

-- The count of an outcome among the sites that pass is the weights of the jobs that pass and have it, and no effect has the
-- dead sites that pass beside them.
abbrev pub PrunedWhere : Type 0
PrunedWhere = (c : CaseData) (live still : Site → Bool) (o : Outcome) →
    count_where (log c) (outcome c) live still o
    ≡ total_where live (outcome c) (job_list (log c)) o + (if same_outcome NoEffect o then dead_where (log c) still else 0)

-- the same over any log, and any outcomes of its jobs
abbrev pub PrunedBoard : Type 0
PrunedBoard = (l : AccessLog) (outcomes : Site → Outcome) (live still : Site → Bool) (o : Outcome) →
    count_where l (spread l outcomes) live still o
    ≡ total_where live outcomes (job_list l) o + (if same_outcome NoEffect o then dead_where l still else 0)

-- where the outcomes of the jobs are right, those of all sites are
abbrev pub SpreadIsRight : Type 0
SpreadIsRight = (c : CaseData) (live still : Site → Bool) (o : Outcome) →
    count_where (log c) (spread (log c) (outcome c)) live still o ≡ count_where (log c) (outcome c) live still o

-- where no dead site passes, the weights of the jobs are all
abbrev pub LiveLine : Type 0
LiveLine = (l : AccessLog) (outcomes : Site → Outcome) (live : Site → Bool) (o : Outcome) →
    count_where l (spread l outcomes) live (λ site. false) o ≡ total_where live outcomes (job_list l) o

-- the dead sites are those that pass no test of jobs
abbrev pub DeadLine : Type 0
DeadLine = (l : AccessLog) (outcomes : Site → Outcome) (o : Outcome) →
    count_where l (spread l outcomes) (λ site. false) (λ site. true) o ≡ (if same_outcome NoEffect o then dead l else 0)

-- ---- tests of cells

-- by a test of cells a site passes whatever job it has
abbrev pub CellLine : Type 0
CellLine = (l : AccessLog) (outcomes : Site → Outcome) (q : ℕ → Bool) (o : Outcome) →
    count_where l outcomes (λ site. q site.cell) (λ site. q site.cell) o
    ≡ length (filter (λ site. q site.cell && same_outcome (outcomes site) o) (all_sites l))

-- and the weights of its jobs, with its dead sites, are one for each cycle and each bit of its cells
abbrev pub CellWhole : Type 0
CellWhole = (l : AccessLog) (q : ℕ → Bool) →
    weight_where (λ site. q site.cell) (job_list l) + dead_where l (λ site. q site.cell) ≡ l.cycles * bits_where q l.ram l.pc

-- ---- lines

-- lines, of which each site has one, by its job or by itself, add up to the whole
abbrev pub LinesAddUp : Type 0
LinesAddUp = (l : AccessLog) (outcomes : Site → Outcome) (live still : Site → ℕ) (n : ℕ) (o : Outcome) → ((site : Site) → live site < n)
    → ((site : Site) → still site < n) →
    sum_by (λ k. count_where l outcomes (λ site. live site == k) (λ site. still site == k) o) (range_with_len 0 n)
    ≡ length (filter (λ site. same_outcome (outcomes site) o) (all_sites l))

-- which for a case is the count
abbrev pub CaseLinesAddUp : Type 0
CaseLinesAddUp = (c : CaseData) (live still : Site → ℕ) (n : ℕ) (o : Outcome) → ((site : Site) → live site < n) → ((site : Site) → still site < n) →
    sum_by (λ k. count_where (log c) (outcome c) (λ site. live site == k) (λ site. still site == k) o) (range_with_len 0 n) ≡ count c o
