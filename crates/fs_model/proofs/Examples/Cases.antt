-- Cases with short programs, and what is told of one.
use Rattle.std.proofs.Common.{◌≡◌, ℕ, suc, true, false, cond, ◌-◌, ◌*◌, ◌/◌, ◌%◌, List, [], ◌∷◌, ◌++◌, length, Option, Some, None, refl, ap, arith}
use Rattle.std.specs.Prelude.{replicate, filter, map, sum_by, if◌then◌else◌, MatchOption, All}
use Rattle.std.proofs.Math.Path.{fun_ext}
use Rattle.std.proofs.lemmas.List.Elements.{All-head, All-tail, All-weaker}
use Rattle.fs_model.specs.declared.sites.Site.{Site}
use Rattle.fs_model.specs.declared.outcomes.Outcome.TheVariants.{NoEffect}
use Rattle.fs_model.specs.declared.sites.Job.{Job}
use Rattle.fs_model.specs.declared.outcomes.Outcome.{Outcome}
use Rattle.fs_model.specs.Case.{CaseData}
use Rattle.fs_model.specs.Cell.{cell_at, bits, with_cell, flip}
use Rattle.fs_model.specs.Touch.{reads, writes, touch}
use Rattle.fs_model.specs.Run.{Ending, step_by, step, start, set_cell, flipped, one_step_more, follow, ending, go_on, run, after, golden, injected, cycles_of}
use Rattle.fs_model.specs.Site.{cell_sites, cells, cycle_sites, sites, sites_of, same_site}
use Rattle.fs_model.specs.Outcome.{all_outcomes, agrees, compare, outcome, same_outcome, count}
use Rattle.fs_model.specs.AccessLog.{log, first_of, touch_within, next_touch, moved_to, job_of, is_read, jobs, is_job, weight, dead}
use Rattle.fs_model.specs.Job.{job_list}
use Rattle.fs_model.proofs.Space.{whole}
use Rattle.fs_model.proofs.Pruned.{pruned_outcomes}

-- the bytes of words, the lowest first
abbrev pub bytes_of : List ℕ → List ℕ
bytes_of [] = []
bytes_of (w ∷ ws) = w % 256 ∷ w / 256 % 256 ∷ w / 65536 % 256 ∷ w / 16777216 % 256 ∷ bytes_of ws

-- the words at the start of 64 bytes of ROM, and 16 bytes of RAM
abbrev pub case_of : ℕ → List ℕ → CaseData
case_of limit words = record {
  entry = 0x20000000;
  limit = limit;
  rom_base = 0x20000000;
  rom = bytes_of words ++ replicate (64 - length words * 4) 0;
  ram_base = 0x80000000;
  ram = replicate 16 0;
  pc_cell = false;
  ram_code = false;
}

pub record Summary : Type 0 where
  pub golden : Ending
  pub sites : ℕ
  pub jobs : ℕ
  pub dead : ℕ

-- A proof that unfolds this unfolds all that a run, its sites and its jobs are made of.
unfoldable pub summary : CaseData → Summary
unfolding cell_at bits with_cell flip reads writes touch step_by step start set_cell flipped one_step_more follow ending go_on run after golden injected cycles_of cell_sites cells cycle_sites sites same_site agrees compare outcome same_outcome count log first_of touch_within next_touch moved_to job_of is_read jobs is_job weight dead
summary c = record { golden = golden c; sites = length (sites_of c); jobs = length (jobs (log c)); dead = dead (log c) }

-- the weights of all jobs, added up; they are what the dead sites leave
abbrev pub live : CaseData → ℕ
live c = sum_by (λ (job : Job). job.weight) (job_list (log c))

pub live-rest : (c : CaseData) → live c ≡ length (sites_of c) - dead (log c)
unfolding log
live-rest c = omega (arith, whole (log c))

-- so many sites have each of these outcomes, and no site another
abbrev pub HasCounts : CaseData → List (Outcome × ℕ) → Type 0
HasCounts c rows = map (count c) all_outcomes ≡ map (λ o. sum_by (λ (row : Outcome × ℕ). if same_outcome row.0 o then row.1 else 0) rows) all_outcomes

-- ---- counts, by runs of jobs alone: a dead site has no effect, and a live one the outcome of its job

-- how many of these outcomes are this one
abbrev pub times_in : List Outcome → Outcome → ℕ
times_in outcomes o = length (filter (λ x. same_outcome x o) outcomes)

abbrev pub of_job : CaseData → Option Site → Outcome
of_job c None = NoEffect
of_job c (Some job) = outcome c job

-- the outcome of each site by its job
abbrev pub by_jobs : CaseData → List Outcome
by_jobs c = map (λ site. of_job c (job_of (log c) site)) (sites_of c)

of_job-is : (c : CaseData) (site : Site) (job : Option Site) → MatchOption job (outcome c site ≡ NoEffect) (λ j. outcome c site ≡ outcome c j) → outcome c site ≡ of_job c job
of_job-is c site None h = h
of_job-is c site (Some job) h = h

-- what passes in one list is as much as in the other
count_same : {X : Type 0} (f g : X → Outcome) (o : Outcome) (xs : List X) → All (λ x. f x ≡ g x) xs → length (filter (λ x. same_outcome (f x) o) xs) ≡ times_in (map g xs) o
count_same f g o [] h = refl
count_same f g o (x ∷ xs) h =
    let a : f x ≡ g x = All-head (λ x. f x ≡ g x) x xs h in
    let e = count_same f g o xs (All-tail (λ x. f x ≡ g x) x xs h) in
    rw a (elim (same_outcome (g x) o) as (λ b. length (cond b (x ∷ filter (λ y. same_outcome (f y) o) xs) (filter (λ y. same_outcome (f y) o) xs)) ≡ length (cond b (g x ∷ filter (λ y. same_outcome y o) (map g xs)) (filter (λ y. same_outcome y o) (map g xs))))
    [ true ↦ ap suc e | false ↦ e ])

pub counts_by_jobs : (c : CaseData) → map (count c) all_outcomes ≡ map (times_in (by_jobs c)) all_outcomes
unfolding count
counts_by_jobs c =
    let same : All (λ site. outcome c site ≡ of_job c (job_of (log c) site)) (sites_of c) =
    All-weaker (λ site. MatchOption (job_of (log c) site) (outcome c site ≡ NoEffect) (λ job. outcome c site ≡ outcome c job)) (λ site. outcome c site ≡ of_job c (job_of (log c) site))
    (λ site h. of_job-is c site (job_of (log c) site) h) (sites_of c) (pruned_outcomes c) in
    let e : (o : Outcome) → length (filter (λ site. same_outcome (outcome c site) o) (sites_of c)) ≡ times_in (by_jobs c) o =
    λ o. count_same (outcome c) (λ site. of_job c (job_of (log c) site)) o (sites_of c) same in
    ap (λ (f : Outcome → ℕ). map f all_outcomes) (fun_ext e)
