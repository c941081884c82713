-- The job of a site, by its number in the list of jobs.
use Rattle.std.proofs.Common.{◌≡◌, ℕ, zero, suc, ◌+◌, ◌-◌, ◌<◌, ◌≤◌, Bool, true, false, List, length, Option, Some, None, refl, sym, ap, ◌∙◌, ⊎_elim, arith}
use Rattle.std.specs.Prelude.{slice_get}
use Rattle.std.specs.List.{range_with_len, flat_map}
use Rattle.std.proofs.lemmas.Bool.{cases_eq}
use Rattle.fs_model.specs.declared.sites.Site.{Site}
use Rattle.fs_model.specs.declared.sites.Job.{Job}
use Rattle.fs_model.specs.Cell.{first_cell, bits}
use Rattle.fs_model.specs.Site.{cells}
use Rattle.fs_model.specs.AccessLog.{AccessLog, next_touch, moved_to, job_of}
use Rattle.fs_model.specs.Job.{site_of, job_list, JobTable, jobs_of}
use Rattle.fs_model.proofs.Lists.{get_left, get_right}
use Rattle.fs_model.proofs.SiteList.{IsSite}
use Rattle.fs_model.proofs.Counts.{job_is, IsJob}
use Rattle.def_use.specs.Reads.{read_jobs}
use Rattle.def_use.specs.Firsts.{IsNumberOf}
use Rattle.def_use.specs.SiteJobs.{IsOfSpace, IsJobNumber}
use Rattle.def_use.proofs.Numbers.{get_range}
use Rattle.def_use.proofs.Weights.{since}
use Rattle.def_use.proofs.Listed.{cell_jobs, cycle_jobs, listed}
use Rattle.def_use.proofs.Search.{below_length}

-- ---- each site that is read is a job of the list

-- the list has it
abbrev Has : List Job → Job → Type 0
Has list job = (number : ℕ) × (slice_get list number ≡ Some job)

has_in_range : (f : ℕ → List Job) (a n x : ℕ) (job : Job) → a ≤ x → x < a + n → Has (f x) job → Has (flat_map f (range_with_len a n)) job
has_in_range f a zero x job low high has = absurd (omega arith)
has_in_range f a (suc n) x job low high has =
    ⊎_elim (λ (e : x ≡ a).
    let here : slice_get (f a) has.0 ≡ Some job = rw (← e) has.1 in
    (has.0, get_left (f a) (flat_map f (range_with_len (a + 1) n)) has.0 (below_length (f a) has.0 job here) ∙ here))
    (λ (ne : x ≡ a → ⊥).
    let later = has_in_range f (a + 1) n x job (omega arith) (omega arith) has in
    let off : length (f a) + later.0 - length (f a) ≡ later.0 = omega arith in
    (length (f a) + later.0, get_right (f a) (flat_map f (range_with_len (a + 1) n)) (length (f a) + later.0) (omega arith) ∙ ap (slice_get (flat_map f (range_with_len (a + 1) n))) off ∙ later.1))
    (cases_eq x a)

job_at : AccessLog → Site → Job
job_at l k = record { cycle = k.cycle; cell = k.cell; bit = k.bit; weight = k.cycle + 1 - since l k.cell k.cycle }

in_cell : (l : AccessLog) (k : Site) → IsJob l k → Has (cell_jobs l k.cycle k.cell) (job_at l k)
unfolding cell_jobs read_jobs job_at
in_cell l k is =
    let f : ℕ → Job = λ bit. record { cycle = k.cycle; cell = k.cell; bit = bit; weight = k.cycle + 1 - since l k.cell k.cycle } in
    let off : 0 + k.bit ≡ k.bit = omega arith in
    (k.bit, rw is.read (get_range f 0 (bits k.cell) k.bit is.site.in_bits ∙ ap (λ b. Some (f b)) off))

in_list : (l : AccessLog) (k : Site) → IsJob l k → Has (job_list l) (job_at l k)
unfolding cycle_jobs cells
in_list l k is =
    let early : k.cycle < l.cycles = is.site.early in
    let low : first_cell l.pc ≤ k.cell = is.site.low in
    let high : k.cell < 32 + l.ram = is.site.in_cells in
    let cycle : Has (cycle_jobs l k.cycle) (job_at l k) = has_in_range (cell_jobs l k.cycle) (first_cell l.pc) (32 + l.ram - first_cell l.pc) k.cell (job_at l k) low (omega arith) (in_cell l k is) in
    let all = has_in_range (cycle_jobs l) 0 l.cycles k.cycle (job_at l k) (omega arith) (omega arith) cycle in
    (all.0, ap (λ (list : List Job). slice_get list all.0) (listed l) ∙ all.1)

site_is : (l : AccessLog) (k : Site) → site_of (job_at l k) ≡ k
unfolding site_of job_at
site_is l k = refl

-- ---- by the next touch

-- the job that a touch gives
job_from : (l : AccessLog) (site : Site) (touch : Option (ℕ × Bool)) → touch ≡ next_touch l site.cell site.cycle → job_of l site ≡ moved_to site touch
unfolding job_of
job_from l site touch e = ap (moved_to site) (sym e)

space_site : (l : AccessLog) (site : Site) → IsOfSpace l site → IsSite l.cycles l.ram l.pc site
space_site l site h = record { early = h.early; low = h.low; in_cells = h.in_cells; in_bits = h.in_bits }

pub by_read : (l : AccessLog) (table : JobTable) (site : Site) (touch : Option (ℕ × Bool)) (cycle : ℕ) (reads : Bool) (r : Option ℕ) → table ≡ jobs_of l → IsOfSpace l site → touch ≡ next_touch l site.cell site.cycle → touch ≡ Some (cycle, reads) → reads ≡ true →
    IsNumberOf table.list (record { cycle = cycle; cell = site.cell; bit = site.bit }) r → IsJobNumber l table.list site r
unfolding moved_to jobs_of
by_read l table site touch cycle reads (Some number) t h next is yes_reads found =
    let job : job_of l site ≡ Some (record site { cycle = cycle }) = job_from l site touch next ∙ ap (moved_to site) (is ∙ ap (λ b. Some (cycle, b)) yes_reads) in
    (found.0, found.1, job ∙ ap Some (sym found.2))
by_read l table site touch cycle reads None t h next is yes_reads none =
    let k : Site = record site { cycle = cycle } in
    let job : job_of l site ≡ Some k = job_from l site touch next ∙ ap (moved_to site) (is ∙ ap (λ b. Some (cycle, b)) yes_reads) in
    let lists : table.list ≡ job_list l = ap (λ (x : JobTable). x.list) t in
    let has = in_list l k (job_is l site k (space_site l site h) job) in
    absurd (none has.0 (job_at l k) (rw lists has.1) (site_is l k))

pub by_write : (l : AccessLog) (list : List Job) (site : Site) (touch : Option (ℕ × Bool)) (cycle : ℕ) (reads : Bool) → touch ≡ next_touch l site.cell site.cycle → touch ≡ Some (cycle, reads) → reads ≡ false → IsJobNumber l list site None
unfolding moved_to
by_write l list site touch cycle reads next is no_read = job_from l site touch next ∙ ap (moved_to site) (is ∙ ap (λ b. Some (cycle, b)) no_read)

pub by_nothing : (l : AccessLog) (list : List Job) (site : Site) (touch : Option (ℕ × Bool)) → touch ≡ next_touch l site.cell site.cycle → touch ≡ None → IsJobNumber l list site None
unfolding moved_to
by_nothing l list site touch next is = job_from l site touch next ∙ ap (moved_to site) is
