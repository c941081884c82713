-- The cells that an instruction touches are few, and so are its jobs and all jobs.
use Rattle.std.proofs.Common.{ℕ, zero, suc, ◌≡◌, ◌+◌, ◌-◌, ◌*◌, ◌^◌, ◌<◌, ◌≤◌, ◌==◌, ◌&&◌, Bool, true, false, cond, if◌then◌else◌, Option, Some, None, length, map, refl, ◌∙◌, arith}
use Rattle.std.specs.Prelude.{is_some}
use Rattle.std.specs.List.{range_with_len, filter, sum_by}
use Rattle.std.proofs.Math.Nat.{mul-le-mul}
use Rattle.std.proofs.lemmas.List.{length-map}
use Rattle.std.proofs.lemmas.List.FromFn.{length-range_with_len}
use Rattle.std.proofs.lemmas.List.Sums.{length-filter, sum_by-le, sum_by-le-sum_by}
use Rattle.std.proofs.lemmas.Bool.Decides.{nat_tests}
use Rattle.fs_model.specs.declared.sites.Cell.{Cell}
use Rattle.fs_model.specs.declared.sites.Cell.TheVariants.{Pc, Reg, Ram}
use Rattle.fs_model.specs.declared.sites.Site.{Site}
use Rattle.fs_model.specs.declared.sites.Job.{Job}
use Rattle.fs_model.specs.Case.{CaseData, max_limit}
use Rattle.fs_model.specs.Map.{max_ram}
use Rattle.fs_model.specs.Cell.{cell_at, first_cell, bits_in, bits}
use Rattle.fs_model.specs.Machine.{Core}
use Rattle.fs_model.specs.Site.{cell_sites, cells, cycle_sites, sites}
use Rattle.fs_model.specs.Touch.{touch}
use Rattle.fs_model.specs.Run.{State, Step, Next, Stop, step, Halt, Detect, Fault, Ending, Ended, Over, one_step_more, follow, ending, start, after, golden, cycles_of, cycles}
use Rattle.fs_model.specs.AccessLog.{log, is_read, all_sites, jobs}
use Rattle.fs_model.specs.Job.{with_weight, job_list, jobs_in}
use Rattle.fs_model.specs.Laws.{bits_of_all, max_bits}
use Rattle.fs_model.proofs.Sums.{sum_zero, sum_filter, sum_flat_map, sum_map}
use Rattle.fs_model.proofs.Space.{space_size}
use Rattle.fault_space.specs.Bounds.{most_cells, most_jobs, FewCells, FewJobs, AllJobs, InLimit, JobLimit, SiteLimit}
use Rattle.fault_space.proofs.AddUp.{one_adds}
use Rattle.fault_space.proofs.Worth.{Rates, Room, by_read, by_write, worth, most, touches_add}

-- ---- cells

each_cell : Rates
each_cell = record { read_reg = 1; read_byte = 1; set_reg = 1; set_byte = 1 }

cell_room : Room each_cell 6
unfolding each_cell
cell_room = record { registers = omega arith; load = omega arith; store = omega arith }

one_cell : (cell : Cell) (o : Option Bool) → cond (is_some o) 1 0 ≤ worth each_cell cell o
unfolding each_cell worth by_read by_write
one_cell cell None = omega arith
one_cell Pc (Some true) = omega arith
one_cell (Reg k) (Some true) = omega arith
one_cell (Ram d) (Some true) = omega arith
one_cell Pc (Some false) = omega arith
one_cell (Reg k) (Some false) = omega arith
one_cell (Ram d) (Some false) = omega arith

cells_most : (c : CaseData) (s : Core) → most each_cell c s 6 ≤ most_cells c
unfolding most each_cell
cells_most c s = omega arith

pub few_cells : FewCells
unfolding cells
few_cells c t =
    let s = (after c t).core in
    let first = first_cell c.pc_cell in
    let count = 32 + length c.ram - first in
    let numbers = range_with_len first count in
    omega (
      arith,
      length-filter (λ n. is_some (touch c s n)) numbers,
      sum_by-le-sum_by (λ n. cond (is_some (touch c s n)) 1 0) (λ n. worth each_cell (cell_at n) (touch c s n)) numbers (λ n. one_cell (cell_at n) (touch c s n)),
      (touches_add each_cell c s 6 cell_room).most first count,
      cells_most c s,
    )

-- ---- jobs

by_bits : Rates
by_bits = record { read_reg = 32; read_byte = 8; set_reg = 0; set_byte = 0 }

bits_room : Room by_bits 64
unfolding by_bits
bits_room = record { registers = omega arith; load = omega arith; store = omega arith }

one_read : Option Bool → ℕ
one_read o = cond (is_read o) 1 0

bits_worth : (cell : Cell) (o : Option Bool) → bits_in cell * one_read o ≤ worth by_bits cell o
unfolding by_bits worth by_read by_write is_read one_read
bits_worth cell None = omega arith
bits_worth Pc (Some true) = omega arith
bits_worth (Reg k) (Some true) = omega arith
bits_worth (Ram d) (Some true) = omega arith
bits_worth cell (Some false) = omega arith

jobs_most : (c : CaseData) (s : Core) → most by_bits c s 64 ≤ most_jobs c
unfolding most by_bits
jobs_most c s = omega arith

-- a sum over the sites of one cycle, of which each bit of a cell adds no more than g
cycle_sum : (pc : Bool) (ram t : ℕ) (f : Site → ℕ) (g : ℕ → ℕ) → ((cell bit : ℕ) → f (record { cycle = t; cell = cell; bit = bit }) ≤ g cell) → sum_by f (cycle_sites pc ram t) ≤ sum_by (λ cell. bits cell * g cell) (cells pc ram)
unfolding cycle_sites cell_sites
cycle_sum pc ram t f g le =
    rw (sum_flat_map f (cell_sites t) (cells pc ram)) (sum_by-le-sum_by (λ cell. sum_by f (cell_sites t cell)) (λ cell. bits cell * g cell) (cells pc ram) one)
  where
    one : (cell : ℕ) → sum_by f (map (λ bit. record { cycle = t; cell = cell; bit = bit }) (range_with_len 0 (bits cell))) ≤ bits cell * g cell
    one cell =
        let numbers = range_with_len 0 (bits cell) in
        let all = sum_by-le (λ bit. f (record { cycle = t; cell = cell; bit = bit })) (g cell) numbers (λ k d h. le cell _) in
        rw (sum_map f (λ bit. record { cycle = t; cell = cell; bit = bit }) numbers) (rw (length-range_with_len 0 (bits cell)) at all)

-- a sum over the sites of one cycle, of which each job adds at most one
jobs_sum : (c : CaseData) (t : ℕ) (f : Site → ℕ) → ((cell bit : ℕ) → f (record { cycle = t; cell = cell; bit = bit }) ≤ one_read (touch c (after c t).core cell)) → sum_by f (cycle_sites c.pc_cell (length c.ram) t) ≤ most_jobs c
unfolding cells bits
jobs_sum c t f le =
    let s = (after c t).core in
    let first = first_cell c.pc_cell in
    let count = 32 + length c.ram - first in
    omega (
      arith,
      cycle_sum c.pc_cell (length c.ram) t f (λ cell. one_read (touch c s cell)) le,
      sum_by-le-sum_by (λ n. bits n * one_read (touch c s n)) (λ n. worth by_bits (cell_at n) (touch c s n)) (range_with_len first count) (λ n. bits_worth (cell_at n) (touch c s n)),
      (touches_add by_bits c s 64 bits_room).most first count,
      jobs_most c s,
    )

none_sum : (pc : Bool) (ram t : ℕ) (f : Site → ℕ) → ((cell bit : ℕ) → f (record { cycle = t; cell = cell; bit = bit }) ≡ 0) → sum_by f (cycle_sites pc ram t) ≡ 0
none_sum pc ram t f none = omega (arith, cycle_sum pc ram t f (λ cell. 0) (λ cell bit. omega (arith, none cell bit)), sum_zero (λ cell. bits cell * 0) (cells pc ram) (λ cell. omega arith))

-- one at each site that is a job of the cycle t
one_job_at : CaseData → ℕ → Site → ℕ
one_job_at c t site = cond (is_read (touch c (after c site.cycle).core site.cell)) (cond (site.cycle == t) 1 0) 0

at_most_one : (r b : Bool) → cond r (cond b 1 0) 0 ≤ cond r 1 0
at_most_one true b = grind (arith, nat_tests)
at_most_one false b = omega arith

at_other : (r : Bool) (u t : ℕ) → (t ≡ u → ⊥) → ◌≡◌ {A = ℕ} (cond r (cond (u == t) 1 0) 0) 0
at_other true u t ne = grind (arith, nat_tests)
at_other false u t ne = refl

jobs_at : (c : CaseData) (t : ℕ) → sum_by (one_job_at c t) (cycle_sites c.pc_cell (length c.ram) t) ≤ most_jobs c
unfolding one_job_at one_read
jobs_at c t = jobs_sum c t (one_job_at c t) (λ cell bit. at_most_one _ _)

jobs_elsewhere : (c : CaseData) (t u : ℕ) → (t ≡ u → ⊥) → sum_by (one_job_at c t) (cycle_sites c.pc_cell (length c.ram) u) ≡ 0
unfolding one_job_at
jobs_elsewhere c t u ne = none_sum c.pc_cell (length c.ram) u (one_job_at c t) (λ cell bit. at_other _ u t ne)

pub few_jobs : FewJobs
unfolding job_list with_weight jobs log sites one_job_at
few_jobs c t =
    let numbers = range_with_len 0 (cycles c) in
    let sum : length (filter (λ (job : Job). job.cycle == t) (jobs_in c)) ≡ sum_by (λ u. sum_by (one_job_at c t) (cycle_sites c.pc_cell (length c.ram) u)) numbers =
    length-filter (λ (job : Job). job.cycle == t) (jobs_in c)
    ∙ sum_map (λ (job : Job). cond (job.cycle == t) 1 0) (with_weight (log c)) (jobs (log c))
    ∙ sum_filter (λ site. is_read ((log c).access site.cycle site.cell)) (λ site. cond (site.cycle == t) 1 0) (all_sites (log c))
    ∙ sum_flat_map (one_job_at c t) (cycle_sites c.pc_cell (length c.ram)) numbers in
    rw sum ((one_adds (λ u. sum_by (one_job_at c t) (cycle_sites c.pc_cell (length c.ram) u)) t (most_jobs c) (jobs_at c t) (jobs_elsewhere c t)).most 0 (cycles c))

-- ---- all jobs

-- one at each site that is a job
one_job : CaseData → Site → ℕ
one_job c site = one_read (touch c (after c site.cycle).core site.cell)

jobs_of_cycle : (c : CaseData) (t : ℕ) → sum_by (one_job c) (cycle_sites c.pc_cell (length c.ram) t) ≤ most_jobs c
unfolding one_job
jobs_of_cycle c t = jobs_sum c t (one_job c) (λ cell bit. omega arith)

pub all_jobs : AllJobs
unfolding job_list jobs log sites one_job one_read
all_jobs c =
    let numbers = range_with_len 0 (cycles c) in
    let sum : length (jobs_in c) ≡ sum_by (λ u. sum_by (one_job c) (cycle_sites c.pc_cell (length c.ram) u)) numbers =
    length-map (jobs (log c)) (with_weight (log c))
    ∙ length-filter (λ site. is_read ((log c).access site.cycle site.cell)) (all_sites (log c))
    ∙ sum_flat_map (one_job c) (cycle_sites c.pc_cell (length c.ram)) numbers in
    let all = sum_by-le (λ u. sum_by (one_job c) (cycle_sites c.pc_cell (length c.ram) u)) (most_jobs c) numbers (λ k d h. jobs_of_cycle c _) in
    rw sum (rw (length-range_with_len 0 (cycles c)) at all)

-- ---- the golden run is within the limit

InSteps : ℕ → Ending → Type 0
InSteps k (Ended end steps output) = steps ≤ k
InSteps k Over = Unit {0}

one_step : (k : ℕ) (e : Ending) → InSteps k e → InSteps (suc k) (one_step_more e)
unfolding InSteps one_step_more
one_step k (Ended end steps output) h = omega arith
one_step k Over h = tt

in_steps : (c : CaseData) (k : ℕ) (s : State) → InSteps k (ending c k s)
unfolding InSteps ending follow
in_steps c zero s = tt
in_steps c (suc k) s = by (step c s) (in_steps c k)
  where
    by : (x : Step) → ((t : State) → InSteps k (ending c k t)) → InSteps (suc k) (follow x s.output (ending c k))
    by (Stop end) ih = omega arith
    by (Next t) ih = one_step k (ending c k t) (ih t)

cycles_in : (k : ℕ) (e : Ending) → InSteps k e → cycles_of e ≤ k
unfolding InSteps cycles_of
cycles_in k (Ended (Halt value) steps output) h = h
cycles_in k (Ended Detect steps output) h = omega arith
cycles_in k (Ended (Fault kind) steps output) h = omega arith
cycles_in k Over h = omega arith

pub in_limit : InLimit
unfolding golden
in_limit c = cycles_in c.limit (ending c c.limit (start c)) (in_steps c c.limit (start c))

-- ---- limits

limit_by : (jobs count : ℕ) (p r : Bool) → count ≤ max_limit → jobs ≤ count * (64 + (if p then 32 else 0) + (if r then 32 else 0)) → (jobs ≤ 2 ^ 31) × ((p && r) ≡ false → jobs < 2 ^ 31)
limit_by jobs count true true few h = (omega arith, λ e. absurd cc)
limit_by jobs count true false few h = (omega arith, λ e. omega arith)
limit_by jobs count false true few h = (omega arith, λ e. omega arith)
limit_by jobs count false false few h = (omega arith, λ e. omega arith)

pub job_limit : JobLimit
job_limit c is = limit_by (length (jobs_in c)) (cycles c) c.pc_cell c.ram_code (omega (arith, in_limit c, is.limit_max)) (all_jobs c)

site_by : (count ram : ℕ) (pc : Bool) → count ≤ max_limit → ram ≤ max_ram → count * bits_of_all ram pc < 2 ^ 44
site_by count ram pc few small = omega (arith, mul-le-mul few (by pc))
  where
    by : (pc : Bool) → bits_of_all ram pc ≤ max_bits
    by true = omega arith
    by false = omega arith

pub site_limit : SiteLimit
site_limit c is = rw (space_size (cycles c) (length c.ram) c.pc_cell) (site_by (cycles c) (length c.ram) c.pc_cell (omega (arith, in_limit c, is.limit_max)) is.map.ram_max)
