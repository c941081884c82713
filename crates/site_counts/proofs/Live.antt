-- The live sites whose job passes a test.
use Rattle.std.proofs.Common.{◌≡◌, ℕ, suc, ◌+◌, ◌-◌, ◌<◌, Bool, true, false, cond, length, Option, Some, None, refl, sym, ap, ◌∙◌, arith}
use Rattle.std.specs.Prelude.{MatchOption}
use Rattle.std.specs.List.{filter, sum_by}
use Rattle.std.proofs.lemmas.List.Sums.{length-filter}
use Rattle.fs_model.specs.declared.sites.Site.{Site}
use Rattle.fs_model.specs.declared.outcomes.Outcome.{Outcome}
use Rattle.fs_model.specs.declared.outcomes.Outcome.TheVariants.{NoEffect, Silent}
use Rattle.fs_model.specs.Outcome.{same_outcome}
use Rattle.fs_model.specs.AccessLog.{AccessLog, first_of, touch_within, next_touch, moved_to, job_of, is_read, all_sites, jobs, weight}
use Rattle.fs_model.proofs.SiteList.{IsSite, sites_hold}
use Rattle.fs_model.proofs.Sums.{sum_same, sum_each, sum_filter}
use Rattle.fs_model.proofs.Counts.{counted, job_is}
use Rattle.site_counts.specs.Counts.{by_job}

-- ---- the job of a job

some_true : (a : Option Bool) → is_read a ≡ true → a ≡ Some true
unfolding is_read
some_true None h = absurd cc
some_true (Some true) h = refl
some_true (Some false) h = absurd cc

pub job_itself : (l : AccessLog) (k : Site) → k.cycle < l.cycles → is_read (l.access k.cycle k.cell) ≡ true → job_of l k ≡ Some k
unfolding job_of next_touch touch_within first_of moved_to
job_itself l k early read =
    let n = l.cycles - k.cycle - 1 in
    let e : l.cycles - k.cycle ≡ suc n = omega arith in
    let r : l.access k.cycle k.cell ≡ Some true = some_true (l.access k.cycle k.cell) read in
    rw (e, r) refl

-- a site's job has its cell
cell_moved : (site : Site) (o : Option (ℕ × Bool)) (k : Site) → moved_to site o ≡ Some k → k.cell ≡ site.cell
unfolding moved_to
cell_moved site None k h = absurd cc
cell_moved site (Some (u, true)) k h = let e : record site { cycle = u } ≡ k = cc in sym (ap (λ (x : Site). x.cell) e)
cell_moved site (Some (u, false)) k h = absurd cc

pub job_cell : (l : AccessLog) (site k : Site) → job_of l site ≡ Some k → k.cell ≡ site.cell
unfolding job_of
job_cell l site k h = cell_moved site (next_touch l site.cell site.cycle) k h

-- ---- the live sites whose job passes

chosen : (Site → Bool) → Option Site → Outcome
chosen p None = NoEffect
chosen p (Some j) = cond (p j) Silent NoEffect

chosen_is : (p : Site → Bool) (m : Option Site) → same_outcome (chosen p m) Silent ≡ by_job p false m
unfolding chosen same_outcome
chosen_is p None = refl
chosen_is p (Some j) = elim (p j) as (λ b. same_outcome (cond b Silent NoEffect) Silent ≡ b) [ true ↦ refl | false ↦ refl ]

chosen_job : (l : AccessLog) (p : Site → Bool) (site : Site) (m : Option Site) → m ≡ job_of l site → IsSite l.cycles l.ram l.pc site →
    MatchOption m (chosen p m ≡ NoEffect) (λ job. chosen p m ≡ chosen p (job_of l job))
unfolding chosen
chosen_job l p site None e h = refl
chosen_job l p site (Some k) e h =
    let job = job_is l site k h (sym e) in
    let early : k.cycle < l.cycles = job.site.early in
    rw (job_itself l k early job.read) refl

-- over the jobs, a test of the job's job is a test of the job
pub same_jobs : (l : AccessLog) (p q : Site → Bool) (f : Site → ℕ) → ((j : Site) → job_of l j ≡ Some j → q j ≡ p j) → sum_by f (filter q (jobs l)) ≡ sum_by f (filter p (jobs l))
unfolding jobs
same_jobs l p q f same =
    sum_filter q f (filter r (all_sites l))
    ∙ sum_filter r (λ j. cond (q j) (f j) 0) (all_sites l)
    ∙ sum_same (λ j. cond (r j) (cond (q j) (f j) 0) 0) (λ j. cond (r j) (cond (p j) (f j) 0) 0) (all_sites l)
    (sites_hold l.cycles l.ram l.pc (λ j. cond (r j) (cond (q j) (f j) 0) 0 ≡ cond (r j) (cond (p j) (f j) 0) 0) (λ j h. by j h (r j) refl))
    ∙ sym (sum_filter r (λ j. cond (p j) (f j) 0) (all_sites l))
    ∙ sym (sum_filter p f (filter r (all_sites l)))
  where
    r : Site → Bool
    r j = is_read (l.access j.cycle j.cell)

    by : (j : Site) → IsSite l.cycles l.ram l.pc j → (b : Bool) → r j ≡ b → ◌≡◌ {A = ℕ} (cond b (cond (q j) (f j) 0) 0) (cond b (cond (p j) (f j) 0) 0)
    by j h true e = rw (same j (job_itself l j h.early e)) refl
    by j h false e = refl

-- the live sites whose job passes are the weights of the jobs that pass
pub live_count : (l : AccessLog) (p : Site → Bool) → length (filter (λ s. by_job p false (job_of l s)) (all_sites l)) ≡ sum_by (weight l) (filter p (jobs l))
unfolding same_outcome
live_count l p =
    length-filter (λ s. by_job p false (job_of l s)) (all_sites l)
    ∙ sum_each (λ s. cond (by_job p false (job_of l s)) 1 0) (λ s. cond (same_outcome (f s) Silent) 1 0) (all_sites l) (λ s. ap (λ b. cond b 1 0) (sym (chosen_is p (job_of l s))))
    ∙ sym (length-filter (λ s. same_outcome (f s) Silent) (all_sites l))
    ∙ counted l f (λ s h. chosen_job l p s (job_of l s) refl h) Silent
    ∙ plus (sum_by (weight l) (filter (λ j. same_outcome (f j) Silent) (jobs l)))
    ∙ same_jobs l p (λ j. same_outcome (f j) Silent) (weight l) (λ j e. chosen_is p (job_of l j) ∙ ap (by_job p false) e)
  where
    f : Site → Outcome
    f s = chosen p (job_of l s)

    plus : (n : ℕ) → n + 0 ≡ n
    plus n = omega arith
