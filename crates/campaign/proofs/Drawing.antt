-- The sites of indices.
use Rattle.std.proofs.Common.{◌≡◌, ℕ, zero, suc, ◌+◌, ◌-◌, ◌*◌, ◌/◌, ◌^◌, ◌<◌, ◌≤◌, Bool, true, false, List, [], ◌∷◌, ◌++◌, length, take, drop, get_or, Option, Some, None, refl, sym, ap, ◌∙◌, arith}
use Rattle.std.specs.Prelude.{slice_get, All, IfSome}
use Rattle.std.specs.List.{sum_by, filter_map, cons_option}
use Rattle.std.proofs.lemmas.List.Sums.{sum_by-cons}
use Rattle.std.proofs.lemmas.List.Elements.{All-map, filter_map-append, filter_passes}
use Rattle.std.proofs.lemmas.Option.{slice_get_within, get_or_from_slice_get, slice_get-get_or, slice_get_past}
use Rattle.std.proofs.lemmas.Bool.{lt-ltb, le-ltb}
use Rattle.std.proofs.Math.Nat.{div-lt_iff_lt-mul}
use Rattle.fs_model.specs.declared.sites.Site.{Site}
use Rattle.fs_model.specs.declared.sites.Job.{Job}
use Rattle.fs_model.specs.Case.{CaseData, IsCase}
use Rattle.fs_model.specs.Run.{cycles}
use Rattle.fs_model.specs.Site.{sites_of}
use Rattle.fs_model.specs.Laws.{bits_of_all}
use Rattle.fs_model.specs.AccessLog.{AccessLog, log, dead, first_of, touch_within, next_touch, moved_to, job_of, is_read, jobs, all_sites}
use Rattle.fs_model.specs.Job.{site_of, job_list, jobs_in, with_weight, IsSameLog}
use Rattle.fs_model.specs.Cell.{first_cell, bits, IsCell}
use Rattle.fs_model.proofs.Space.{whole, space_size}
use Rattle.experiment.proofs.JobSites.{job_is}
use Rattle.def_use.proofs.Numbers.{within_space}
use Rattle.def_use.specs.Lives.{HoldsLive}
use Rattle.def_use.specs.SiteJobs.{IsOfSpace, IsJobNumber}
use Rattle.campaign.specs.Sampled.{population, live_site, site_of_index, drawn_sites}
use Rattle.campaign.specs.Draw.{IsDraw}

-- ---- one index after the other

-- a list that goes on with an index
next_of : (all : List ℕ) (i index : ℕ) (rest : List ℕ) → drop i all ≡ index ∷ rest → (take (i + 1) all ≡ take i all ++ index ∷ []) × (drop (i + 1) all ≡ rest)
next_of [] zero index rest e = absurd cc
next_of [] (suc i) index rest e = absurd cc
next_of (x ∷ xs) zero index rest e =
    let first : x ≡ index = cc in
    let others : xs ≡ rest = cc in
    (ap (λ n. n ∷ []) first, others)
next_of (x ∷ xs) (suc i) index rest e =
    let more = next_of xs i index rest e in
    let s : suc i + 1 ≡ suc (i + 1) = omega arith in
    (rw s (ap (λ r. x ∷ r) more.0), rw s more.1)

pub sites_more : (place : ℕ → Option Site) (xs : List ℕ) (index : ℕ) (site : Site) → place index ≡ Some site → filter_map place (xs ++ index ∷ []) ≡ filter_map place xs ++ site ∷ []
sites_more place xs index site e = filter_map-append place xs (index ∷ []) ∙ ap (λ s. filter_map place xs ++ cons_option s []) e

-- the same, where so many are still to come
pub next_drawn : (all : List ℕ) (i count index : ℕ) (now after : ℕ → List ℕ) → i < count → drop i all ≡ now (count - i) → ((n : ℕ) → now (suc n) ≡ index ∷ after n) →
    (take (i + 1) all ≡ take i all ++ index ∷ []) × (drop (i + 1) all ≡ after (count - (i + 1)))
next_drawn all i count index now after low so_far first =
    let one : count - i ≡ suc (count - (i + 1)) = omega arith in
    next_of all i index (after (count - (i + 1))) (so_far ∙ ap now one ∙ first (count - (i + 1)))

-- ---- the live sites

pub live_site_is : (jobs : List Job) (index number : ℕ) (job : Job) → HoldsLive jobs index number → slice_get jobs number ≡ Some job → live_site jobs index ≡ Some (site_of job)
unfolding live_site
live_site_is [] index number job h at = absurd cc
live_site_is (x ∷ jobs) index zero job h at =
    let same : x ≡ job = cc in
    let low : index < x.weight = omega (arith, h.above) in
    rw (lt-ltb index x.weight low) (ap (λ j. Some (site_of j)) same)
live_site_is (x ∷ jobs) index (suc n) job h at =
    let s : suc n + 1 ≡ suc (n + 1) = omega arith in
    let up : index < sum_by (λ (j : Job). j.weight) (take (suc (n + 1)) (x ∷ jobs)) = rw s at h.above in
    let low = sum_by-cons (λ (j : Job). j.weight) x (take n jobs) in
    let high = sum_by-cons (λ (j : Job). j.weight) x (take (n + 1) jobs) in
    let rest : HoldsLive jobs (index - x.weight) n = record { inside = omega (arith, h.inside); below = omega (arith, h.below, low); above = omega (arith, h.below, low, up, high) } in
    rw (le-ltb index x.weight (omega (arith, h.below, low))) (live_site_is jobs (index - x.weight) n job rest at)

-- ---- logs that say the same

touches_same : (l m : AccessLog) → IsSameLog l m → (cell n t : ℕ) → first_cell l.pc ≤ cell → t + n ≤ l.cycles → touch_within l cell n t ≡ touch_within m cell n t
unfolding touch_within
touches_same l m h cell zero t low early = refl
touches_same l m h cell (suc n) t low early = rw (h.access t cell (omega arith) low, touches_same l m h cell n (t + 1) low (omega arith)) refl

pub job_same : (l m : AccessLog) (site : Site) → IsSameLog l m → IsOfSpace l site → job_of l site ≡ job_of m site
unfolding job_of next_touch
job_same l m site h space =
    let early : site.cycle < l.cycles = space.early in
    rw (touches_same l m h site.cell (l.cycles - site.cycle) site.cycle space.low (omega arith), h.cycles) refl

-- ---- what is found for an index

read_itself : (l : AccessLog) (k : Site) (n : ℕ) → l.cycles - k.cycle ≡ suc n → is_read (l.access k.cycle k.cell) ≡ true → job_of l k ≡ Some k
unfolding job_of next_touch touch_within first_of moved_to is_read
read_itself l k n left read = rw left (by (l.access k.cycle k.cell) read)
  where
    by : (a : Option Bool) → is_read a ≡ true → moved_to k (first_of a k.cycle (touch_within l k.cell n (k.cycle + 1))) ≡ Some k
    by None h = absurd cc
    by (Some true) h = refl
    by (Some false) h = absurd cc

jobs_read : (l : AccessLog) → All (λ (job : Job). is_read (l.access job.cycle job.cell) ≡ true) (job_list l)
unfolding job_list jobs with_weight
jobs_read l =
    All-map (λ (job : Job). is_read (l.access job.cycle job.cell) ≡ true) (with_weight l) (jobs l) (filter_passes (λ site. is_read (l.access site.cycle site.cell)) (all_sites l))

-- a job's own site belongs to it
pub job_itself : (c : CaseData) (i : ℕ) (job : Job) → slice_get (jobs_in c) i ≡ Some job → job_of (log c) (site_of job) ≡ Some (site_of job)
unfolding log site_of
job_itself c i job at =
    let is = job_is c (jobs_in c) i job refl at in
    let early : job.cycle < cycles c = is.early in
    let read = jobs_read (log c) i job (slice_get_within (jobs_in c) i job at) in
    read_itself (log c) (site_of job) (cycles c - job.cycle - 1) (omega arith) (rw (get_or_from_slice_get (jobs_in c) i job job at) at read)

in_space : (c : CaseData) (i : ℕ) (job : Job) → slice_get (jobs_in c) i ≡ Some job → IsOfSpace (log c) (site_of job)
unfolding log site_of
in_space c i job at = let is = job_is c (jobs_in c) i job refl at in record { early = is.early; low = is.cell.0; in_cells = is.cell.1; in_bits = is.bit }

-- a live draw
pub live_draw : (c : CaseData) (list : List Job) (index number : ℕ) → list ≡ jobs_in c → HoldsLive list index number → (site : Site) × (live_site (jobs_in c) index ≡ Some site) × IsDraw c site (Some number)
live_draw c list index number is holds =
    let here : HoldsLive (jobs_in c) index number = rw is at holds in
    let job = get_or (jobs_in c) number (record { cycle = 0; cell = 0; bit = 0; weight = 0 }) in
    let there = slice_get-get_or (jobs_in c) number (record { cycle = 0; cell = 0; bit = 0; weight = 0 }) here.inside in
    (site_of job, live_site_is (jobs_in c) index number job here there, record { space = in_space c number job there; number_is = (job, there, job_itself c number job there) })

-- a draw among all sites
module _ (c : CaseData) (index : ℕ) (low : index < length (sites_of c)) where
  some_bits : (ram : ℕ) (pc : Bool) → 0 < bits_of_all ram pc
  some_bits ram true = omega arith
  some_bits ram false = omega arith

  pub cycle_low : index / bits_of_all (length c.ram) c.pc_cell < cycles c
  cycle_low =
      let fits : index < cycles c * bits_of_all (length c.ram) c.pc_cell = omega (arith, low, space_size (cycles c) (length c.ram) c.pc_cell) in
      (div-lt_iff_lt-mul {k = bits_of_all (length c.ram) c.pc_cell} {x = index} {y = cycles c} (some_bits (length c.ram) c.pc_cell)).1 fits

  pub site_in_space : (site : Site) → site.cycle ≡ index / bits_of_all (length c.ram) c.pc_cell → IsCell c site.cell → site.bit < bits site.cell → IsOfSpace (log c) site
  unfolding log
  site_in_space site cycle cell bit = record { early = omega (arith, cycle, cycle_low); low = cell.0; in_cells = cell.1; in_bits = bit }

-- a site of the one is one of the other
pub space_of : (l m : AccessLog) (site : Site) → IsSameLog l m → IsOfSpace m site → IsOfSpace l site
space_of l m site h space = record { early = rw (h.cycles) space.early; low = rw (h.pc) space.low; in_cells = rw (h.ram) space.in_cells; in_bits = space.in_bits }

pub number_in : (c : CaseData) (l : AccessLog) (list : List Job) (site : Site) (number : Option ℕ) → IsSameLog l (log c) → list ≡ jobs_in c → IsOfSpace (log c) site → IsJobNumber l list site number → IsJobNumber (log c) (jobs_in c) site number
number_in c l list site None same is space h = sym (job_same l (log c) site same (space_of l (log c) site same space)) ∙ h
number_in c l list site (Some n) same is space h = (h.0, rw (← is) h.1, sym (job_same l (log c) site same (space_of l (log c) site same space)) ∙ h.2)

pub number_low : (l : AccessLog) (list : List Job) (site : Site) (number : Option ℕ) → IsJobNumber l list site number → IfSome number (λ n. n < length list)
number_low l list site None h = tt
number_low l list site (Some n) h = slice_get_within list n h.0 h.1

-- ---- how many there are

pub all_is : (c : CaseData) → sum_by (λ (job : Job). job.weight) (jobs_in c) + dead (log c) ≡ length (sites_of c)
unfolding log
all_is c = whole (log c)

pub population_low : (c : CaseData) (live : Bool) → IsCase c → cycles c ≤ c.limit → population c live < 2 ^ 44
population_low c live is few = by live
  where
    all : length (sites_of c) < 2 ^ 44
    all = omega (arith, space_size (cycles c) (length c.ram) c.pc_cell, within_space (cycles c) (length c.ram) c.pc_cell (omega (arith, few, is.limit_max)) is.map.ram_max)

    by : (b : Bool) → population c b < 2 ^ 44
    by true = omega (arith, all_is c, all)
    by false = all

-- ---- nothing to draw from

no_live : (jobs : List Job) (index : ℕ) → sum_by (λ (job : Job). job.weight) jobs ≡ 0 → live_site jobs index ≡ None
unfolding live_site
no_live [] index none = refl
no_live (x ∷ jobs) index none =
    let sum = sum_by-cons (λ (job : Job). job.weight) x jobs in
    rw (le-ltb index x.weight (omega (arith, sum, none))) (no_live jobs (index - x.weight) (omega (arith, sum, none)))

none_at_all : (place : ℕ → Option Site) (xs : List ℕ) → ((index : ℕ) → place index ≡ None) → filter_map place xs ≡ []
none_at_all place [] none = refl
none_at_all place (x ∷ xs) none = ap (λ s. cons_option s (filter_map place xs)) (none x) ∙ none_at_all place xs none

pub nothing_drawn : (c : CaseData) (live : Bool) (seed count : ℕ) → population c live ≡ 0 → drawn_sites c live seed count ≡ []
unfolding drawn_sites
nothing_drawn c true seed count none = none_at_all (site_of_index c true) _ (λ index. no_live (jobs_in c) index none)
nothing_drawn c false seed count none = none_at_all (site_of_index c false) _ (λ index. slice_get_past (sites_of c) index (omega (arith, none)))
