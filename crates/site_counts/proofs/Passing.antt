-- The sites that pass, by their jobs.
use Rattle.std.proofs.Common.{◌≡◌, ℕ, ◌+◌, ◌<◌, ◌&&◌, Bool, true, false, cond, length, Option, Some, None, refl, sym, ap, ◌∙◌, arith, List, [], ◌∷◌}
use Rattle.std.specs.Prelude.{MatchOption, is_none}
use Rattle.std.specs.List.{filter, sum_by}
use Rattle.std.proofs.lemmas.List.Sums.{length-filter}
use Rattle.std.proofs.lemmas.Bool.{and_right}
use Rattle.fs_model.specs.declared.sites.Site.{Site}
use Rattle.fs_model.specs.declared.outcomes.Outcome.{Outcome}
use Rattle.fs_model.specs.declared.outcomes.Outcome.TheVariants.{NoEffect}
use Rattle.fs_model.specs.Run.{cycles}
use Rattle.fs_model.specs.Outcome.{outcome, same_outcome}
use Rattle.fs_model.specs.AccessLog.{AccessLog, log, job_of, all_sites, jobs, weight, dead}
use Rattle.fs_model.proofs.SiteList.{IsSite, sites_hold}
use Rattle.fs_model.proofs.Sums.{sum_same, sum_each, sum_add, sum_cond, sum_zero}
use Rattle.fs_model.proofs.Space.{listed_weights}
use Rattle.fs_model.proofs.Counts.{job_is}
use Rattle.fs_model.specs.Job.{job_list}
use Rattle.fs_model.specs.declared.sites.Job.{Job}
use Rattle.fs_model.proofs.Pruned.{site_outcome}
use Rattle.site_counts.specs.Counts.{by_job, passes, count_where, dead_where, total_where, outcome_from, spread}
use Rattle.site_counts.specs.Laws.{PrunedWhere, PrunedBoard, SpreadIsRight, DeadLine, LiveLine}
use Rattle.site_counts.proofs.Live.{job_itself, live_count, same_jobs}

-- ---- the sites that pass

one_site : (f : Site → Outcome) (live : Site → Bool) (still : Bool) (o : Outcome) (site : Site) (m : Option Site) → MatchOption m (f site ≡ NoEffect) (λ job. f site ≡ f job) →
    ◌≡◌ {A = ℕ} (cond (by_job live still m && same_outcome (f site) o) 1 0)
    (cond (by_job (λ j. live j && same_outcome (f j) o) false m) 1 0 + cond (same_outcome NoEffect o) (cond (is_none m && still) 1 0) 0)
one_site f live still o site None fact =
    rw fact (elim still as (λ b. ◌≡◌ {A = ℕ} (cond (b && same_outcome NoEffect o) 1 0) (0 + cond (same_outcome NoEffect o) (cond (true && b) 1 0) 0)) [
      | true ↦ elim (same_outcome NoEffect o) as (λ b. ◌≡◌ {A = ℕ} (cond (true && b) 1 0) (0 + cond b (cond (true && true) 1 0) 0)) [ true ↦ refl | false ↦ refl ]
      | false ↦ elim (same_outcome NoEffect o) as (λ b. ◌≡◌ {A = ℕ} 0 (0 + cond b 0 0)) [ true ↦ refl | false ↦ refl ]
    ])
one_site f live still o site (Some k) fact =
    rw fact (elim (same_outcome NoEffect o) as (λ b. ◌≡◌ {A = ℕ} (cond (live k && same_outcome (f k) o) 1 0) (cond (live k && same_outcome (f k) o) 1 0 + cond b 0 0))
    [ true ↦ omega arith | false ↦ omega arith ])

pub counted_where : (l : AccessLog) (f : Site → Outcome) → ((site : Site) → IsSite l.cycles l.ram l.pc site → MatchOption (job_of l site) (f site ≡ NoEffect) (λ job. f site ≡ f job)) → (live still : Site → Bool) (o : Outcome) →
    count_where l f live still o ≡ sum_by (weight l) (filter (λ j. live j && same_outcome (f j) o) (jobs l)) + cond (same_outcome NoEffect o) (dead_where l still) 0
unfolding count_where passes dead_where
counted_where l f fact live still o =
    length-filter (λ s. by_job live (still s) (job_of l s) && same_outcome (f s) o) (all_sites l)
    ∙ sum_same (λ s. cond (by_job live (still s) (job_of l s) && same_outcome (f s) o) 1 0) (λ s. cond (by_job p false (job_of l s)) 1 0 + cond (same_outcome NoEffect o) (cond (is_none (job_of l s) && still s) 1 0) 0) (all_sites l)
    (sites_hold l.cycles l.ram l.pc (λ s. cond (by_job live (still s) (job_of l s) && same_outcome (f s) o) 1 0 ≡ cond (by_job p false (job_of l s)) 1 0 + cond (same_outcome NoEffect o) (cond (is_none (job_of l s) && still s) 1 0) 0)
    (λ s h. one_site f live (still s) o s (job_of l s) (fact s h)))
    ∙ sum_add (λ s. cond (by_job p false (job_of l s)) 1 0) (λ s. cond (same_outcome NoEffect o) (cond (is_none (job_of l s) && still s) 1 0) 0) (all_sites l)
    ∙ ap (λ n. n + sum_by (λ s. cond (same_outcome NoEffect o) (cond (is_none (job_of l s) && still s) 1 0) 0) (all_sites l)) (sym (length-filter (λ s. by_job p false (job_of l s)) (all_sites l)) ∙ live_count l p)
    ∙ ap (λ n. sum_by (weight l) (filter p (jobs l)) + n) (sum_cond (same_outcome NoEffect o) (λ s. cond (is_none (job_of l s) && still s) 1 0) (all_sites l) ∙ ap (λ n. cond (same_outcome NoEffect o) n 0) (sym (length-filter (λ s. is_none (job_of l s) && still s) (all_sites l))))
  where
    p : Site → Bool
    p j = live j && same_outcome (f j) o

-- ---- the laws

pub pruned_where : PrunedWhere
unfolding total_where log
pruned_where c live still o =
    counted_where (log c) (outcome c) (site_outcome c) live still o
    ∙ ap (λ n. n + cond (same_outcome NoEffect o) (dead_where (log c) still) 0) (sym (listed_weights (log c) (λ j. live j && same_outcome (outcome c j) o)))

spread_fact : (l : AccessLog) (outcomes : Site → Outcome) (site : Site) (m : Option Site) → m ≡ job_of l site → IsSite l.cycles l.ram l.pc site →
    MatchOption m (outcome_from outcomes m ≡ NoEffect) (λ job. outcome_from outcomes m ≡ outcome_from outcomes (job_of l job))
spread_fact l outcomes site None e h = refl
spread_fact l outcomes site (Some k) e h =
    let job = job_is l site k h (sym e) in
    let early : k.cycle < l.cycles = job.site.early in
    rw (job_itself l k early job.read) refl

pub pruned_board : PrunedBoard
unfolding spread total_where
pruned_board l outcomes live still o =
    counted_where l (spread l outcomes) (λ site h. spread_fact l outcomes site (job_of l site) refl h) live still o
    ∙ ap (λ n. n + cond (same_outcome NoEffect o) (dead_where l still) 0)
    (same_jobs l (λ j. live j && same_outcome (outcomes j) o) (λ j. live j && same_outcome (spread l outcomes j) o) (weight l) (λ j e. ap (λ m. live j && same_outcome (outcome_from outcomes m) o) e)
    ∙ sym (listed_weights l (λ j. live j && same_outcome (outcomes j) o)))

from_jobs : (f : Site → Outcome) (site : Site) (m : Option Site) → MatchOption m (f site ≡ NoEffect) (λ job. f site ≡ f job) → outcome_from f m ≡ f site
from_jobs f site None fact = sym fact
from_jobs f site (Some k) fact = sym fact

pub spread_is_right : SpreadIsRight
unfolding count_where spread log
spread_is_right c live still o =
    length-filter (λ s. passes (log c) live still s && same_outcome (outcome_from (outcome c) (job_of (log c) s)) o) (all_sites (log c))
    ∙ sum_same (λ s. cond (passes (log c) live still s && same_outcome (outcome_from (outcome c) (job_of (log c) s)) o) 1 0) (λ s. cond (passes (log c) live still s && same_outcome (outcome c s) o) 1 0) (all_sites (log c))
    (sites_hold (cycles c) (length c.ram) c.pc_cell (λ s. ◌≡◌ {A = ℕ} (cond (passes (log c) live still s && same_outcome (outcome_from (outcome c) (job_of (log c) s)) o) 1 0) (cond (passes (log c) live still s && same_outcome (outcome c s) o) 1 0))
    (λ s h. ap (λ x. cond (passes (log c) live still s && same_outcome x o) 1 0) (from_jobs (outcome c) s (job_of (log c) s) (site_outcome c s h))))
    ∙ sym (length-filter (λ s. passes (log c) live still s && same_outcome (outcome c s) o) (all_sites (log c)))

-- ---- live and dead lines

and_true : (b : Bool) → (b && true) ≡ b
and_true true = refl
and_true false = refl

filter_none : {X : Type 0} (f : X → ℕ) (xs : List X) → sum_by f (filter (λ x. false) xs) ≡ 0
filter_none f [] = refl
filter_none f (x ∷ xs) = filter_none f xs

dead_none : (l : AccessLog) → dead_where l (λ site. false) ≡ 0
unfolding dead_where
dead_none l =
    length-filter (λ s. is_none (job_of l s) && false) (all_sites l)
    ∙ sum_zero (λ s. cond (is_none (job_of l s) && false) 1 0) (all_sites l) (λ s. ap (λ b. cond b 1 0) (and_right (is_none (job_of l s)) false refl))

dead_all : (l : AccessLog) → dead_where l (λ site. true) ≡ dead l
unfolding dead_where dead
dead_all l =
    length-filter (λ s. is_none (job_of l s) && true) (all_sites l)
    ∙ sum_each (λ s. cond (is_none (job_of l s) && true) 1 0) (λ s. cond (is_none (job_of l s)) 1 0) (all_sites l) (λ s. ap (λ b. cond b 1 0) (and_true (is_none (job_of l s))))
    ∙ sym (length-filter (λ s. is_none (job_of l s)) (all_sites l))

plus_none : (n : ℕ) (b : Bool) → n + cond b 0 0 ≡ n
plus_none n true = omega arith
plus_none n false = omega arith

pub live_line : LiveLine
live_line l outcomes live o =
    pruned_board l outcomes live (λ site. false) o
    ∙ ap (λ n. total_where live outcomes (job_list l) o + cond (same_outcome NoEffect o) n 0) (dead_none l)
    ∙ plus_none (total_where live outcomes (job_list l) o) (same_outcome NoEffect o)

no_jobs : (outcomes : Site → Outcome) (list : List Job) (o : Outcome) → total_where (λ site. false) outcomes list o ≡ 0
unfolding total_where
no_jobs outcomes list o = filter_none (λ (j : Job). j.weight) list

pub dead_line : DeadLine
dead_line l outcomes o =
    pruned_board l outcomes (λ site. false) (λ site. true) o
    ∙ ap (λ n. n + cond (same_outcome NoEffect o) (dead_where l (λ site. true)) 0) (no_jobs outcomes (job_list l) o)
    ∙ ap (λ n. 0 + cond (same_outcome NoEffect o) n 0) (dead_all l)
    ∙ zero_plus (cond (same_outcome NoEffect o) (dead l) 0)
  where
    zero_plus : (n : ℕ) → 0 + n ≡ n
    zero_plus n = omega arith
