-- The jobs that drawn sites belong to, and their steps.
use Rattle.std.proofs.Common.{◌≡◌, ℕ, zero, suc, ◌+◌, ◌<◌, ◌||◌, Bool, true, false, cond, List, [], ◌∷◌, ◌++◌, length, Option, Some, None, refl, sym, ap, ◌∙◌, ⊎_elim, arith}
use Rattle.std.specs.Prelude.{slice_get, slice_set}
use Rattle.std.specs.List.{sum_by, list_any}
use Rattle.std.proofs.lemmas.List.Sums.{sum_by-cons}
use Rattle.std.proofs.lemmas.List.Folds.{list_any-append}
use Rattle.std.proofs.lemmas.List.{get_or-set_same, get_or-set_other}
use Rattle.std.proofs.lemmas.Option.{get_or_from_slice_get, slice_get_within}
use Rattle.std.proofs.lemmas.Bool.{cases_eq, false_from_ne_true, or_right}
use Rattle.std.proofs.Math.Bool.{or-false}
use Rattle.fs_model.specs.declared.sites.Site.{Site}
use Rattle.fs_model.specs.declared.sites.Job.{Job}
use Rattle.fs_model.specs.declared.outcomes.Outcome.{Outcome}
use Rattle.fs_model.specs.Case.{CaseData}
use Rattle.fs_model.specs.Run.{cycles}
use Rattle.fs_model.specs.Outcome.{outcome}
use Rattle.fs_model.specs.AccessLog.{log, job_of, is_job}
use Rattle.fs_model.specs.Job.{site_of, jobs_in, HasOutcomes}
use Rattle.fs_model.proofs.Sums.{sum_each, sum_filter}
use Rattle.experiment.specs.Jobs.{steps_of_job}
use Rattle.def_use.specs.Board.{place_at}
use Rattle.result_keeper.specs.Boards.{IsOnce}
use Rattle.campaign.specs.Sampled.{is_drawn, jobs_drawn, steps_of_drawn}
use Rattle.result_keeper.proofs.Filing.{site_same, site_itself}

-- ---- a sum over the jobs that pass one test or another

module _ (cost : Job → ℕ) (old hit : Job → Bool) where
  either : Job → ℕ
  either x = cond (old x || hit x) (cost x) 0

  first : Job → ℕ
  first x = cond (old x) (cost x) 0

  same_here : (x : Job) → hit x ≡ false → either x ≡ first x
  unfolding either first
  same_here x out = rw (out, or-false (old x)) refl

  one_here : (b : Bool) (n : ℕ) → ◌≡◌ {A = ℕ} (cond (b || true) n 0) (cond b n 0 + cond b 0 n)
  one_here true n = omega arith
  one_here false n = omega arith

  none_hit : (list : List Job) → ((i : ℕ) (x : Job) → slice_get list i ≡ Some x → hit x ≡ false) → sum_by either list ≡ sum_by first list
  none_hit [] none = refl
  none_hit (x ∷ list) none =
      sum_by-cons either x list ∙ ap (λ n. n + sum_by either list) (same_here x (none 0 x refl))
      ∙ ap (λ n. first x + n) (none_hit list (λ i y at. none (suc i) y at)) ∙ sym (sum_by-cons first x list)

  one_hit : (list : List Job) (n : ℕ) (job : Job) → slice_get list n ≡ Some job → hit job ≡ true → ((i : ℕ) (x : Job) → slice_get list i ≡ Some x → (i ≡ n → ⊥) → hit x ≡ false) →
      sum_by either list ≡ sum_by first list + cond (old job) 0 (cost job)
  unfolding either first
  one_hit [] n job at is others = absurd cc
  one_hit (x ∷ list) zero job at is others =
      let same : x ≡ job = cc in
      let head : either x ≡ first x + cond (old job) 0 (cost job) = rw (same, is) (one_here (old job) (cost job)) in
      let rest = none_hit list (λ i y there. others (suc i) y there (λ e. absurd (omega (arith, e)))) in
      omega (arith, sum_by-cons either x list, sum_by-cons first x list, head, rest)
  one_hit (x ∷ list) (suc n) job at is others =
      let head = same_here x (others 0 x refl (λ e. absurd (omega (arith, e)))) in
      let rest = one_hit list n job at is (λ i y there ne. others (suc i) y there (λ e. ne (omega (arith, e)))) in
      omega (arith, sum_by-cons either x list, sum_by-cons first x list, head, rest)

-- ---- one site more

module _ (c : CaseData) (sites : List Site) (site : Site) where
  -- the site belongs to the job
  pub hits : Job → Bool
  hits job = is_job (job_of (log c) site) (site_of job)

  pub drawn_more : (job : Job) → is_drawn c (sites ++ site ∷ []) job ≡ (is_drawn c sites job || hits job)
  unfolding is_drawn hits
  drawn_more job =
      list_any-append (λ s. is_job (job_of (log c) s) (site_of job)) sites (site ∷ [])
      ∙ ap (λ b. list_any (λ s. is_job (job_of (log c) s) (site_of job)) sites || b) (or-false (is_job (job_of (log c) site) (site_of job)))

  pub hits_none : job_of (log c) site ≡ None → (job : Job) → hits job ≡ false
  unfolding hits is_job
  hits_none dead job = rw dead refl

  module _ (job : Job) (is : job_of (log c) site ≡ Some (site_of job)) where
    pub hits_itself : hits job ≡ true
    unfolding hits is_job
    hits_itself = rw is (site_itself (site_of job))

    pub hits_others : (n : ℕ) → IsOnce (jobs_in c) → slice_get (jobs_in c) n ≡ Some job → (i : ℕ) (x : Job) → slice_get (jobs_in c) i ≡ Some x → (i ≡ n → ⊥) → hits x ≡ false
    unfolding hits is_job
    hits_others n once at i x there ne =
        rw is (false_from_ne_true _ (λ h. ne (once i n x job there at (sym (site_same (site_of job) (site_of x) h)))))

  module _ (spacing : ℕ) where
    cost : Job → ℕ
    cost = steps_of_job c spacing (cycles c)

    as_either : steps_of_drawn c spacing (sites ++ site ∷ []) ≡ sum_by (either cost (is_drawn c sites) hits) (jobs_in c)
    unfolding steps_of_drawn jobs_drawn cost either
    as_either =
        sum_filter (is_drawn c (sites ++ site ∷ [])) (steps_of_job c spacing (cycles c)) (jobs_in c)
        ∙ sum_each (λ x. cond (is_drawn c (sites ++ site ∷ []) x) (steps_of_job c spacing (cycles c) x) 0) (λ x. cond (is_drawn c sites x || hits x) (steps_of_job c spacing (cycles c) x) 0) (jobs_in c)
        (λ x. ap (λ b. cond b (steps_of_job c spacing (cycles c) x) 0) (drawn_more x))

    as_first : steps_of_drawn c spacing sites ≡ sum_by (first cost (is_drawn c sites) hits) (jobs_in c)
    unfolding steps_of_drawn jobs_drawn cost first
    as_first = sum_filter (is_drawn c sites) (steps_of_job c spacing (cycles c)) (jobs_in c)

    pub steps_dead : job_of (log c) site ≡ None → steps_of_drawn c spacing (sites ++ site ∷ []) ≡ steps_of_drawn c spacing sites
    steps_dead dead = as_either ∙ none_hit cost (is_drawn c sites) hits (jobs_in c) (λ i x at. hits_none dead x) ∙ sym as_first

    pub steps_live : (n : ℕ) (job : Job) → IsOnce (jobs_in c) → slice_get (jobs_in c) n ≡ Some job → job_of (log c) site ≡ Some (site_of job) →
        steps_of_drawn c spacing (sites ++ site ∷ []) ≡ steps_of_drawn c spacing sites + cond (is_drawn c sites job) 0 (steps_of_job c spacing (cycles c) job)
    unfolding cost
    steps_live n job once at is =
        as_either ∙ one_hit cost (is_drawn c sites) hits (jobs_in c) n job at (hits_itself job is) (hits_others job is n once at)
        ∙ ap (λ s. s + cond (is_drawn c sites job) 0 (steps_of_job c spacing (cycles c) job)) (sym as_first)

-- ---- the board

-- the board has the outcomes of the jobs that these sites belong to, and no others
abbrev pub Remembers : CaseData → List Site → List (Option Outcome) → Type 0
Remembers c sites board = (i : ℕ) (job : Job) → slice_get (jobs_in c) i ≡ Some job → place_at board i ≡ cond (is_drawn c sites job) (Some (outcome c (site_of job))) None

pub right_of : (c : CaseData) (sites : List Site) (board : List (Option Outcome)) → Remembers c sites board → HasOutcomes (outcome c) (jobs_in c) board
right_of c sites board h i job o at there = by (is_drawn c sites job) (sym (get_or_from_slice_get board i (Some o) None there) ∙ h i job at)
  where
    by : (b : Bool) → ◌≡◌ {A = Option Outcome} (Some o) (cond b (Some (outcome c (site_of job))) None) → o ≡ outcome c (site_of job)
    by true e = cc
    by false e = absurd cc

pub remember_dead : (c : CaseData) (sites : List Site) (site : Site) (board : List (Option Outcome)) → Remembers c sites board → job_of (log c) site ≡ None → Remembers c (sites ++ site ∷ []) board
remember_dead c sites site board h dead i job at = rw (drawn_more c sites site job, hits_none c sites site dead job, or-false (is_drawn c sites job)) (h i job at)

pub remember_live : (c : CaseData) (sites : List Site) (site : Site) (board new : List (Option Outcome)) (n : ℕ) (job : Job) (o : Outcome) → IsOnce (jobs_in c) → Remembers c sites board → length board ≡ length (jobs_in c) →
    slice_get (jobs_in c) n ≡ Some job → job_of (log c) site ≡ Some (site_of job) → o ≡ outcome c (site_of job) → new ≡ slice_set board n (Some o) → Remembers c (sites ++ site ∷ []) new
remember_live c sites site board new n job o once h long at is right made i x there =
    rw (drawn_more c sites site x, made)
    (⊎_elim (λ (e : i ≡ n).
    let here : slice_get (jobs_in c) n ≡ Some x = rw e at there in
    let some : ◌≡◌ {A = Option Job} (Some job) (Some x) = sym at ∙ here in
    let same : job ≡ x = cc in
    let low : n < length (jobs_in c) = slice_get_within (jobs_in c) n job at in
    rw (← same, hits_itself c sites site job is, or_right (is_drawn c sites job) true refl, e) (get_or-set_same board n (Some o) None (omega (arith, low, long)) ∙ ap Some right))
    (λ (ne : i ≡ n → ⊥). rw (hits_others c sites site job is n once at i x there ne, or-false (is_drawn c sites x)) (get_or-set_other board n i (Some o) None ne ∙ h i x there))
    (cases_eq i n))
