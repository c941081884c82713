-- What a sample comes to, draw by draw.
use Rattle.std.proofs.Common.{◌≡◌, ℕ, ◌+◌, ◌*◌, ◌<◌, ◌≤◌, ◌^◌, Bool, true, false, cond, List, [], ◌∷◌, ◌++◌, length, replicate, get_or, Option, Some, None, refl, sym, ap, ◌∙◌, arith}
use Rattle.std.specs.Prelude.{MatchOption}
use Rattle.std.specs.List.{filter, sum_by, All}
use Rattle.std.proofs.lemmas.List.Elements.{All-head, All-tail, All-filter}
use Rattle.experiment.proofs.JobSites.{IsJob, jobs_are}
use Rattle.experiment.proofs.Injected.{job_few}
use Rattle.std.proofs.lemmas.List.Sums.{length-filter, sum_by-append, sum_by-cons}
use Rattle.std.proofs.lemmas.List.{length-replicate, get_or-replicate, length-set}
use Rattle.std.proofs.lemmas.Option.{slice_get_within}
use Rattle.fs_model.specs.declared.sites.Site.{Site}
use Rattle.fs_model.specs.declared.sites.Job.{Job}
use Rattle.fs_model.specs.declared.outcomes.Outcome.{Outcome}
use Rattle.fs_model.specs.declared.outcomes.Outcome.TheVariants.{NoEffect}
use Rattle.fs_model.specs.Case.{CaseData}
use Rattle.fs_model.specs.Run.{cycles}
use Rattle.fs_model.specs.Outcome.{TotalsData, outcome, same_outcome, total_at, added, no_totals}
use Rattle.fs_model.specs.AccessLog.{log, job_of}
use Rattle.fs_model.specs.Job.{site_of, jobs_in}
use Rattle.fs_model.proofs.EachOutcome.{total_at-added, total_at-totals_of}
use Rattle.fs_model.proofs.Sums.{sum_zero, sum_filter}
use Rattle.fs_model.proofs.Pruned.{site_outcome}
use Rattle.experiment.specs.Jobs.{steps_of_job}
use Rattle.snapshot_store.specs.Along.{Rose}
use Rattle.def_use.specs.Board.{place_at}
use Rattle.campaign.specs.Sampled.{count_in, is_drawn, jobs_drawn, steps_of_drawn}
use Rattle.campaign.specs.Draw.{IsDraw, IsDrawn, steps_if_blank}
use Rattle.campaign.proofs.Steps.{rose_on}
use Rattle.result_keeper.proofs.Once.{once}
use Rattle.campaign.proofs.DrawnJobs.{Remembers, remember_dead, remember_live, steps_dead, steps_live}

-- the draws so far
pub record IsSampled (c : CaseData) (spacing : ℕ) (sites : List Site) (board : List (Option Outcome)) (totals : TotalsData) (before after : ℕ) : Type 0 where
  pub long : length board ≡ length (jobs_in c)
  pub remembers : Remembers c sites board
  pub counts : (o : Outcome) → total_at totals o ≡ count_in c sites o
  pub taken : Rose before (steps_of_drawn c spacing sites) after

-- ---- before the first

pub none_counted : (c : CaseData) (o : Outcome) → count_in c [] o ≡ 0
unfolding count_in
none_counted c o = refl

none_drawn : (c : CaseData) (job : Job) → is_drawn c [] job ≡ false
unfolding is_drawn
none_drawn c job = refl

pub no_steps : (c : CaseData) (spacing : ℕ) → steps_of_drawn c spacing [] ≡ 0
unfolding steps_of_drawn jobs_drawn is_drawn
no_steps c spacing = sum_filter (λ (job : Job). false) (steps_of_job c spacing (cycles c)) (jobs_in c) ∙ sum_zero (λ (job : Job). cond false (steps_of_job c spacing (cycles c) job) 0) (jobs_in c) (λ job. refl)

pub sampled_none : (c : CaseData) (spacing : ℕ) (board : List (Option Outcome)) (n : ℕ) (totals : TotalsData) (before : ℕ) → board ≡ replicate n None → n ≡ length (jobs_in c) → totals ≡ no_totals → before < 2 ^ 64 → IsSampled c spacing [] board totals before before
sampled_none c spacing board n totals before blank count zeros small =
    let none : Option Outcome = None in
    record {
      long = ap length blank ∙ length-replicate n none ∙ count;
      remembers = λ i job at. let low = slice_get_within (jobs_in c) i job at in rw (none_drawn c job, blank) (get_or-replicate n i none none (omega (arith, low, count)));
      counts = λ o. ap (λ t. total_at t o) zeros ∙ total_at-totals_of (λ p. 0) o ∙ sym (none_counted c o);
      taken = omega (arith, no_steps c spacing, small);
    }

-- ---- how many steps at most

few_each : (f : Job → ℕ) (k : ℕ) (jobs : List Job) → All (λ job. f job ≤ k) jobs → sum_by f jobs ≤ k * length jobs
few_each f k [] all = omega arith
few_each f k (x ∷ jobs) all =
    let here : f x ≤ k = All-head (λ job. f job ≤ k) x jobs all in
    let rest = few_each f k jobs (All-tail (λ job. f job ≤ k) x jobs all) in
    let sum = sum_by-cons f x jobs in
    let more : k * (length jobs + 1) ≡ k * length jobs + k = grind arith in
    omega (arith, here, rest, sum, more)

pub most_steps : (c : CaseData) (spacing : ℕ) (sites : List Site) → cycles c ≤ c.limit → steps_of_drawn c spacing sites ≤ c.limit * length (jobs_drawn c sites)
unfolding steps_of_drawn jobs_drawn
most_steps c spacing sites few =
    few_each (steps_of_job c spacing (cycles c)) c.limit (filter (is_drawn c sites) (jobs_in c))
    (All-filter (is_drawn c sites) (λ job. steps_of_job c spacing (cycles c) job ≤ c.limit) (jobs_in c)
    (λ i d low. by (get_or (jobs_in c) i d) (jobs_are c i d low)))
  where
    by : (job : Job) → IsJob c job → steps_of_job c spacing (cycles c) job ≤ c.limit
    by job is = let most = job_few c spacing (cycles c) job (omega (arith, is.early, few)) in omega (arith, most)

-- ---- one more

count_more : (c : CaseData) (sites : List Site) (site : Site) (o : Outcome) → count_in c (sites ++ site ∷ []) o ≡ count_in c sites o + cond (same_outcome (outcome c site) o) 1 0
unfolding count_in
count_more c sites site o =
    length-filter p (sites ++ site ∷ [])
    ∙ sum_by-append (λ x. cond (p x) 1 0) sites (site ∷ [])
    ∙ ap (λ n. n + sum_by (λ x. cond (p x) 1 0) (site ∷ [])) (sym (length-filter p sites))
    ∙ ap (λ n. length (filter p sites) + n) (sum_by-cons (λ x. cond (p x) 1 0) site [] ∙ omega arith)
  where
    p : Site → Bool
    p s = same_outcome (outcome c s) o

counts_more : (c : CaseData) (sites : List Site) (site : Site) (totals new : TotalsData) (x : Outcome) → ((o : Outcome) → total_at totals o ≡ count_in c sites o) → new ≡ added totals x 1 → x ≡ outcome c site → (o : Outcome) → total_at new o ≡ count_in c (sites ++ site ∷ []) o
counts_more c sites site totals new x h made is o =
    ap (λ t. total_at t o) made ∙ total_at-added totals x o 1
    ∙ ap (λ n. n + cond (same_outcome x o) 1 0) (h o)
    ∙ ap (λ y. count_in c sites o + cond (same_outcome y o) 1 0) is
    ∙ sym (count_more c sites site o)

-- the outcome of a site, by what is known of its job
outcome_dead : (c : CaseData) (site : Site) (m : Option Site) → m ≡ None → MatchOption m (outcome c site ≡ NoEffect) (λ job. outcome c site ≡ outcome c job) → outcome c site ≡ NoEffect
outcome_dead c site None is h = h
outcome_dead c site (Some k) is h = absurd cc

outcome_live : (c : CaseData) (site k : Site) (m : Option Site) → m ≡ Some k → MatchOption m (outcome c site ≡ NoEffect) (λ job. outcome c site ≡ outcome c job) → outcome c site ≡ outcome c k
outcome_live c site k None is h = absurd cc
outcome_live c site k (Some j) is h = let same : j ≡ k = cc in h ∙ ap (outcome c) same

by_site : (c : CaseData) (site : Site) (number : Option ℕ) → IsDraw c site number → MatchOption (job_of (log c) site) (outcome c site ≡ NoEffect) (λ job. outcome c site ≡ outcome c job)
unfolding log
by_site c site number h = site_outcome c site (record { early = h.space.early; low = h.space.low; in_cells = h.space.in_cells; in_bits = h.space.in_bits })

steps_are : (b : Bool) (o : Outcome) (place : Option Outcome) (n : ℕ) → place ≡ cond b (Some o) None → steps_if_blank place n ≡ cond b 0 n
steps_are true o place n e = rw e refl
steps_are false o place n e = rw e refl

module _ (c : CaseData) (spacing : ℕ) (sites : List Site) (site : Site) (board new : List (Option Outcome)) (totals totals' : TotalsData) (before mid after : ℕ) (x : Outcome) where
  pub sampled_more : (number : Option ℕ) → IsSampled c spacing sites board totals before mid → IsDraw c site number → IsDrawn c spacing number x board new mid after → totals' ≡ added totals x 1 →
      IsSampled c spacing (sites ++ site ∷ []) new totals' before after
  sampled_more None h draw run made =
      let dead : job_of (log c) site ≡ None = draw.number_is in
      record {
        long = ap length run.1 ∙ h.long;
        remembers = rw run.1 (remember_dead c sites site board h.remembers dead);
        counts = counts_more c sites site totals totals' x h.counts made (run.0 ∙ sym (outcome_dead c site (job_of (log c) site) dead (by_site c site None draw)));
        taken = rw (steps_dead c sites site spacing dead, run.2) h.taken;
      }
  sampled_more (Some n) h draw run made =
      let job = draw.number_is.0 in
      let at = draw.number_is.1 in
      let is = draw.number_is.2 in
      let ran = run job at in
      let place = h.remembers n job at in
      let steps = steps_are (is_drawn c sites job) (outcome c (site_of job)) (place_at board n) (steps_of_job c spacing (cycles c) job) place in
      record {
        long = ap length ran.board ∙ length-set board n (Some x) ∙ h.long;
        remembers = remember_live c sites site board new n job x (once c) h.remembers h.long at is ran.outcome_is ran.board;
        counts = counts_more c sites site totals totals' x h.counts made (ran.outcome_is ∙ sym (outcome_live c site (site_of job) (job_of (log c) site) is (by_site c site (Some n) draw)));
        taken = rose_on before mid after (steps_of_drawn c spacing sites) _ _ h.taken ran.taken
            (steps_live c sites site spacing n job (once c) at is ∙ ap (λ s. steps_of_drawn c spacing sites + s) (sym steps));
      }
