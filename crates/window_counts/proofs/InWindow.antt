-- The sites in a window, by their jobs.
use Rattle.std.proofs.Common.{◌≡◌, ℕ, ◌+◌, ◌&&◌, Bool, true, false, cond, length, List, Option, Some, None, refl, sym, ap, ◌∙◌, ⊎_elim, arith}
use Rattle.std.specs.Prelude.{◌==◌, MatchOption, is_none}
use Rattle.std.specs.List.{filter, sum_by}
use Rattle.std.proofs.lemmas.List.Sums.{length-filter}
use Rattle.std.proofs.lemmas.Bool.{cases_Bool, ne_eqb, and_right}
use Rattle.fs_model.specs.declared.sites.Site.{Site}
use Rattle.fs_model.specs.declared.sites.Job.{Job}
use Rattle.fs_model.specs.declared.outcomes.Outcome.{Outcome}
use Rattle.fs_model.specs.declared.outcomes.Outcome.TheVariants.{NoEffect}
use Rattle.fs_model.specs.Outcome.{outcome, same_outcome}
use Rattle.fs_model.specs.Site.{sites, same_site}
use Rattle.fs_model.specs.AccessLog.{AccessLog, log, job_of, is_read, all_sites, jobs, is_job}
use Rattle.fs_model.specs.Job.{site_of, with_weight, job_list, total}
use Rattle.fs_model.proofs.SiteList.{IsSite, sites_hold, sum_column}
use Rattle.fs_model.proofs.Sums.{sum_same, sum_each, sum_zero, sum_add, sum_cond, sum_filter, sum_map, sum_swap, sum_one}
use Rattle.fs_model.proofs.Counts.{same_site-refl, same_site-true, cond_zero, plus_zero, job_is}
use Rattle.fs_model.proofs.Pruned.{site_outcome}
use Rattle.site_counts.specs.Counts.{dead_where}
use Rattle.window_counts.specs.Windows.{in_window, clipped, clipped_jobs, weight_inside, window_count, window_dead}
use Rattle.window_counts.specs.Laws.{PrunedWindow}
use Rattle.window_counts.proofs.Columns.{sites_inside}

-- ---- each site that is read is one of the jobs, and only one

-- one where the site is k, and else 0
hit : Site → Site → ℕ
hit k j = cond (same_site k j) 1 0

hit_cycle : (k : Site) (t cell bit : ℕ) → (k.cycle ≡ t → ⊥) → hit k (record { cycle = t; cell = cell; bit = bit }) ≡ 0
unfolding hit same_site
hit_cycle k t cell bit ne = rw (ne_eqb k.cycle t ne) refl

hit_cell : (k : Site) (t cell bit : ℕ) → (k.cell ≡ cell → ⊥) → hit k (record { cycle = t; cell = cell; bit = bit }) ≡ 0
unfolding hit same_site
hit_cell k t cell bit ne = rw (ne_eqb k.cell cell ne, and_right (k.cycle == t) false refl) refl

hit_bit : (k : Site) (t cell bit : ℕ) → (k.bit ≡ bit → ⊥) → hit k (record { cycle = t; cell = cell; bit = bit }) ≡ 0
unfolding hit same_site
hit_bit k t cell bit ne = rw (ne_eqb k.bit bit ne, and_right (k.cell == cell) false refl, and_right (k.cycle == t) false refl) refl

hit-itself : (k : Site) → hit k k ≡ 1
unfolding hit
hit-itself k = rw (same_site-refl k) refl

hits_in_sites : (n ram : ℕ) (pc : Bool) (k : Site) → IsSite n ram pc k → sum_by (hit k) (sites n ram pc) ≡ 1
hits_in_sites n ram pc k h =
    sum_column n ram pc (hit k) k h.low h.in_cells h.in_bits (hit_cell k) (hit_bit k)
    ∙ sum_one (λ t. hit k (record { cycle = t; cell = k.cell; bit = k.bit })) 0 n k.cycle (omega arith) (omega (arith, h.early)) (λ t ne. hit_cycle k t k.cell k.bit ne)
    ∙ hit-itself k

-- what depends on a site j alone, where j is k, may be said of k
moves : (k j : Site) (p : Site → Bool) (q : Bool) → cond (p j) (cond (same_site k j && q) 1 0) 0 ≡ cond (q && p k) (hit k j) 0
unfolding hit
moves k j p q =
    ⊎_elim (λ (h : same_site k j ≡ true).
    let same = same_site-true k j h in
    rw (h, ← same) (elim q as (λ b. ◌≡◌ {A = ℕ} (cond (p k) (cond (true && b) 1 0) 0) (cond (b && p k) 1 0)) [ true ↦ refl | false ↦ cond_zero (p k) ]))
    (λ (h : same_site k j ≡ false). rw h (cond_zero (p j) ∙ sym (cond_zero (q && p k))))
    (cases_Bool (same_site k j))

reads : AccessLog → Site → Bool
reads l j = is_read (l.access j.cycle j.cell)

hits_in_jobs : (l : AccessLog) (k : Site) → IsSite l.cycles l.ram l.pc k → reads l k ≡ true → sum_by (hit k) (jobs l) ≡ 1
unfolding jobs reads hit
hits_in_jobs l k h r =
    sum_filter (reads l) (hit k) (all_sites l)
    ∙ sum_each (λ j. cond (reads l j) (hit k j) 0) (hit k) (all_sites l) (λ j. alone j)
    ∙ hits_in_sites l.cycles l.ram l.pc k h
  where
    alone : (j : Site) → ◌≡◌ {A = ℕ} (cond (is_read (l.access j.cycle j.cell)) (cond (same_site k j) 1 0) 0) (cond (same_site k j) 1 0)
    alone j =
        ⊎_elim (λ (e : same_site k j ≡ true).
        let same = same_site-true k j e in
        let read : is_read (l.access j.cycle j.cell) ≡ true = ap (reads l) (sym same) ∙ r in
        rw read refl)
        (λ (e : same_site k j ≡ false). rw e (cond_zero (is_read (l.access j.cycle j.cell))))
        (cases_Bool (same_site k j))

-- ---- one site

one_site : (l : AccessLog) (f : Site → Outcome) (o : Outcome) (q : Bool) (site : Site) (m : Option Site) → m ≡ job_of l site → IsSite l.cycles l.ram l.pc site →
    MatchOption m (f site ≡ NoEffect) (λ job. f site ≡ f job) →
    cond (q && same_outcome (f site) o) 1 0
    ≡ sum_by (λ j. cond (same_outcome (f j) o) (cond (is_job m j && q) 1 0) 0) (jobs l) + cond (same_outcome NoEffect o) (cond (is_none m && q) 1 0) 0
unfolding is_job reads
one_site l f o q site None e h fact =
    rw (fact, sum_zero (λ j. cond (same_outcome (f j) o) 0 0) (jobs l) (λ j. cond_zero (same_outcome (f j) o)))
    (elim q as (λ b. ◌≡◌ {A = ℕ} (cond (b && same_outcome NoEffect o) 1 0) (0 + cond (same_outcome NoEffect o) (cond (true && b) 1 0) 0)) [
      | true ↦ omega arith
      | false ↦ omega (arith, cond_zero (same_outcome NoEffect o))
    ])
one_site l f o q site (Some k) e h fact =
    let job = job_is l site k h (sym e) in
    let p : Site → Bool = λ j. same_outcome (f j) o in
    let one : sum_by (λ j. cond (p j) (cond (same_site k j && q) 1 0) 0) (jobs l) ≡ cond (q && p k) 1 0 =
    sum_each (λ j. cond (p j) (cond (same_site k j && q) 1 0) 0) (λ j. cond (q && p k) (hit k j) 0) (jobs l) (λ j. moves k j p q)
    ∙ sum_cond (q && p k) (hit k) (jobs l)
    ∙ ap (λ n. cond (q && p k) n 0) (hits_in_jobs l k job.site job.read) in
    rw (fact, cond_zero (same_outcome NoEffect o)) (sym one ∙ plus_zero (sum_by (λ j. cond (p j) (cond (same_site k j && q) 1 0) 0) (jobs l)))

-- ---- all sites

-- how many sites of a job are in the window
inside : AccessLog → List Bool → Site → ℕ
inside l w j = sum_by (λ s. cond (is_job (job_of l s) j && in_window w s.cycle) 1 0) (all_sites l)

by_sites : (l : AccessLog) (w : List Bool) (f : Site → Outcome) → ((site : Site) → IsSite l.cycles l.ram l.pc site → MatchOption (job_of l site) (f site ≡ NoEffect) (λ job. f site ≡ f job)) → (o : Outcome) →
    length (filter (λ s. in_window w s.cycle && same_outcome (f s) o) (all_sites l))
    ≡ sum_by (λ j. cond (same_outcome (f j) o) (inside l w j) 0) (jobs l) + cond (same_outcome NoEffect o) (window_dead l w) 0
unfolding inside dead_where
by_sites l w f fact o =
    length-filter (λ s. in_window w s.cycle && p s) (all_sites l)
    ∙ sum_same (λ s. cond (in_window w s.cycle && p s) 1 0) (λ s. live s + still s) (all_sites l)
    (sites_hold l.cycles l.ram l.pc (λ s. cond (in_window w s.cycle && p s) 1 0 ≡ live s + still s) (λ s h. one_site l f o (in_window w s.cycle) s (job_of l s) refl h (fact s h)))
    ∙ sum_add live still (all_sites l)
    ∙ ap (λ n. n + sum_by still (all_sites l)) by_job
    ∙ ap (λ n. sum_by (λ j. cond (p j) (inside l w j) 0) (jobs l) + n) the_dead
  where
    p : Site → Bool
    p s = same_outcome (f s) o

    live : Site → ℕ
    live s = sum_by (λ j. cond (p j) (cond (is_job (job_of l s) j && in_window w s.cycle) 1 0) 0) (jobs l)

    still : Site → ℕ
    still s = cond (same_outcome NoEffect o) (cond (is_none (job_of l s) && in_window w s.cycle) 1 0) 0

    by_job : sum_by live (all_sites l) ≡ sum_by (λ j. cond (p j) (inside l w j) 0) (jobs l)
    by_job =
        sum_swap (λ s j. cond (p j) (cond (is_job (job_of l s) j && in_window w s.cycle) 1 0) 0) (all_sites l) (jobs l)
        ∙ sum_each (λ j. sum_by (λ s. cond (p j) (cond (is_job (job_of l s) j && in_window w s.cycle) 1 0) 0) (all_sites l)) (λ j. cond (p j) (inside l w j) 0) (jobs l)
        (λ j. sum_cond (p j) (λ s. cond (is_job (job_of l s) j && in_window w s.cycle) 1 0) (all_sites l))

    the_dead : sum_by still (all_sites l) ≡ cond (same_outcome NoEffect o) (window_dead l w) 0
    the_dead =
        sum_cond (same_outcome NoEffect o) (λ s. cond (is_none (job_of l s) && in_window w s.cycle) 1 0) (all_sites l)
        ∙ ap (λ n. cond (same_outcome NoEffect o) n 0) (sym (length-filter (λ s. is_none (job_of l s) && in_window w s.cycle) (all_sites l)))

-- ---- by clipped weights

clipped_total : (l : AccessLog) (w : List Bool) (f : Site → Outcome) (o : Outcome) →
    total f (clipped_jobs w (job_list l)) o ≡ sum_by (λ j. cond (same_outcome (f j) o) (inside l w j) 0) (jobs l)
unfolding total clipped job_list with_weight site_of jobs inside
clipped_total l w f o =
    sum_filter (λ (job : Job). same_outcome (f (site_of job)) o) (λ (job : Job). job.weight) (clipped_jobs w (job_list l))
    ∙ sum_map (λ (job : Job). cond (same_outcome (f (site_of job)) o) job.weight 0) (clipped w) (job_list l)
    ∙ sum_map (λ (job : Job). cond (same_outcome (f (site_of (clipped w job))) o) (clipped w job).weight 0) (with_weight l) (jobs l)
    ∙ sum_filter r (λ j. cond (same_outcome (f j) o) (weight_inside w (with_weight l j)) 0) (all_sites l)
    ∙ sum_same (λ j. cond (r j) (cond (same_outcome (f j) o) (weight_inside w (with_weight l j)) 0) 0) (λ j. cond (r j) (cond (same_outcome (f j) o) (inside l w j) 0) 0) (all_sites l)
    (sites_hold l.cycles l.ram l.pc (λ j. ◌≡◌ {A = ℕ} (cond (r j) (cond (same_outcome (f j) o) (weight_inside w (with_weight l j)) 0) 0) (cond (r j) (cond (same_outcome (f j) o) (inside l w j) 0) 0)) (λ j h. by j h (r j) refl))
    ∙ sym (sum_filter r (λ j. cond (same_outcome (f j) o) (inside l w j) 0) (all_sites l))
  where
    r : Site → Bool
    r j = is_read (l.access j.cycle j.cell)

    by : (j : Site) → IsSite l.cycles l.ram l.pc j → (b : Bool) → r j ≡ b →
        ◌≡◌ {A = ℕ} (cond b (cond (same_outcome (f j) o) (weight_inside w (with_weight l j)) 0) 0) (cond b (cond (same_outcome (f j) o) (inside l w j) 0) 0)
    by j h true e = ap (λ n. cond (same_outcome (f j) o) n 0) (sym (sites_inside l w j h e))
    by j h false e = refl

pub counted_in : (l : AccessLog) (w : List Bool) (f : Site → Outcome) → ((site : Site) → IsSite l.cycles l.ram l.pc site → MatchOption (job_of l site) (f site ≡ NoEffect) (λ job. f site ≡ f job)) → (o : Outcome) →
    length (filter (λ s. in_window w s.cycle && same_outcome (f s) o) (all_sites l)) ≡ total f (clipped_jobs w (job_list l)) o + cond (same_outcome NoEffect o) (window_dead l w) 0
counted_in l w f fact o = by_sites l w f fact o ∙ ap (λ n. n + cond (same_outcome NoEffect o) (window_dead l w) 0) (sym (clipped_total l w f o))

pub pruned_window : PrunedWindow
unfolding window_count log
pruned_window c w o = counted_in (log c) w (outcome c) (site_outcome c) o
