-- The weight of a site's job, by the log of its case.
use Rattle.std.proofs.Common.{◌≡◌, ℕ, zero, suc, ◌+◌, ◌-◌, ◌<◌, ◌≤◌, Bool, List, [], ◌∷◌, length, map, refl, sym, ap, subst, ◌∙◌, arith}
use Rattle.std.specs.Prelude.{Some, None, option_map, slice_get}
use Rattle.fs_model.specs.declared.sites.Job.{Job}
use Rattle.fs_model.specs.declared.sites.Site.{Site}
use Rattle.fs_model.specs.AccessLog.{AccessLog, job_of, jobs, log, next_touch, touch_within, weight}
use Rattle.fs_model.specs.Cell.{first_cell}
use Rattle.fs_model.specs.Case.{CaseData}
use Rattle.fs_model.specs.Job.{IsSameLog, JobTable, job_list, jobs_of, log_of, site_of, with_weight}
use Rattle.access_log.specs.LogData.{LogData, log_in}
use Rattle.golden_trace.specs.Goldens.{GoldenData, IsGolden}
use Rattle.def_use.specs.SiteJobs.{IsJobNumber, IsOfSpace}
use Rattle.def_use.proofs.SameLog.{same_jobs}

touches_same : (l m : AccessLog) → IsSameLog l m → (cell n t : ℕ) → first_cell l.pc ≤ cell → t + n ≤ l.cycles → touch_within l cell n t ≡ touch_within m cell n t
unfolding touch_within
touches_same l m h cell zero t low early = refl
touches_same l m h cell (suc n) t low early = rw (h.access t cell (omega arith) low, touches_same l m h cell n (t + 1) low (omega arith)) refl

job_same : (l m : AccessLog) (site : Site) → IsSameLog l m → IsOfSpace l site → job_of l site ≡ job_of m site
unfolding job_of next_touch
job_same l m site h space =
    let early : site.cycle < l.cycles = space.early in
    rw (touches_same l m h site.cell (l.cycles - site.cycle) site.cycle space.low (omega arith), h.cycles) refl

-- a job in a list of jobs has the weight of its site
weight_in : (l : AccessLog) (sites : List Site) (number : ℕ) (job : Job) → slice_get (map (with_weight l) sites) number ≡ Some job → job.weight ≡ weight l (site_of job)
unfolding with_weight site_of
weight_in l [] number job e = absurd cc
weight_in l (site ∷ rest) zero job e =
    let is : with_weight l site ≡ job = cc in
    ap (λ (j : Job). j.weight) (sym is) ∙ ap (λ (j : Job). weight l (site_of j)) is
weight_in l (site ∷ rest) (suc number) job e = weight_in l rest number job e

weight_at : (l : AccessLog) (number : ℕ) (job : Job) → slice_get (job_list l) number ≡ Some job → job.weight ≡ weight l (site_of job)
unfolding job_list
weight_at l number job e = weight_in l (jobs l) number job e

-- the log of the golden run's touches says the same as that of its case
pub log_same : (c : CaseData) (g : GoldenData) (l : LogData) → IsGolden c g → l.touches ≡ g.touches → l.ram ≡ length c.ram → l.pc ≡ c.pc_cell → IsSameLog (log_in l) (log c)
log_same c g l h touches ram pc =
    let is : log_in l ≡ log_of g.touches (length c.ram) c.pc_cell =
    ap (λ x. log_of x l.ram l.pc) touches ∙ ap (λ (n : ℕ). log_of g.touches n l.pc) ram ∙ ap (λ (b : Bool). log_of g.touches (length c.ram) b) pc in
    subst (λ (x : AccessLog). IsSameLog x (log c)) (sym is) h.log

listed : (l : AccessLog) (table : JobTable) → table ≡ jobs_of l → table.list ≡ job_list l
unfolding jobs_of
listed l table e = ap (λ (t : JobTable). t.list) e

module _ (l m : AccessLog) (site : Site) (same : IsSameLog l m) (space : IsOfSpace l site) where
  -- the site belongs to no job
  pub weight_dead : (list : List Job) → IsJobNumber l list site None → None ≡ option_map (weight m) (job_of m site)
  weight_dead list dead = ap (option_map (weight m)) (sym dead ∙ job_same l m site same space)

  -- it belongs to the job of this number
  pub weight_live : (table : JobTable) (number : ℕ) (job : Job) → table ≡ jobs_of l → IsJobNumber l table.list site (Some number) → slice_get table.list number ≡ Some job → Some job.weight ≡ option_map (weight m) (job_of m site)
  weight_live table number job all live found =
      let there : slice_get (job_list m) number ≡ Some job = ap (λ (x : List Job). slice_get x number) (sym (listed l table all ∙ same_jobs l m same)) ∙ found in
      let other : Some live.0 ≡ Some job = sym live.1 ∙ found in
      let is : live.0 ≡ job = cc in
      let belongs : job_of m site ≡ Some (site_of job) = sym (job_same l m site same space) ∙ live.2 ∙ ap (λ (j : Job). Some (site_of j)) is in
      ap Some (weight_at m number job there) ∙ ap (option_map (weight m)) (sym belongs)
