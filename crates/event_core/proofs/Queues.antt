-- A queue, some of whose jobs are run, and others taken aside before them.
use Rattle.std.proofs.Common.{All, ℕ, ◌≡◌, ◌==◌, cond, Bool, true, false, List, [], ◌∷◌, ◌++◌, refl, sym, ap, ◌∙◌, subst, eq-eqb, ne_eqb, append_assoc}
use Rattle.std.specs.Prelude.{filter, flat_map}
use Rattle.std.specs.List.{concat}
use Rattle.std.proofs.lemmas.List.Elements.{All-cons, All-head, All-nil, filter_passes}
use Rattle.event_core.specs.declared.events.CoreEvent.{CoreEvent}
use Rattle.event_core.specs.declared.events.CoreEvent.TheVariants.{Keep}
use Rattle.event_core.specs.PageEvents.{run_events, job_events, taken_aside, queue_behind, page_events, OthersAreAside, NoneIsAside}

-- ---- none, and one behind others

pub behind-none : (queue : List ℕ) → queue_behind queue [] ≡ queue
behind-none [] = refl
behind-none (first ∷ queue) = refl

pub aside-none : (queue : List ℕ) → taken_aside queue [] ≡ []
aside-none [] = refl
aside-none (first ∷ queue) = refl

pub behind-append : (queue a b : List ℕ) → queue_behind queue (a ++ b) ≡ queue_behind (queue_behind queue a) b
behind-append [] a b = refl
behind-append (first ∷ queue) [] b = refl
behind-append (first ∷ queue) (job ∷ a) b = by (first == job) (behind-append queue a b) (behind-append queue (job ∷ a) b)
  where
    by : (t : Bool) → queue_behind queue (a ++ b) ≡ queue_behind (queue_behind queue a) b → queue_behind queue (job ∷ (a ++ b)) ≡ queue_behind (queue_behind queue (job ∷ a)) b
        → cond t (queue_behind queue (a ++ b)) (queue_behind queue (job ∷ (a ++ b))) ≡ queue_behind (cond t (queue_behind queue a) (queue_behind queue (job ∷ a))) b
    by true run pass = run
    by false run pass = pass

pub aside-append : (queue a b : List ℕ) → taken_aside queue (a ++ b) ≡ taken_aside queue a ++ taken_aside (queue_behind queue a) b
aside-append [] a b = refl
aside-append (first ∷ queue) [] b = refl
aside-append (first ∷ queue) (job ∷ a) b = by (first == job) (aside-append queue a b) (aside-append queue (job ∷ a) b)
  where
    by : (t : Bool) → taken_aside queue (a ++ b) ≡ taken_aside queue a ++ taken_aside (queue_behind queue a) b
        → taken_aside queue (job ∷ (a ++ b)) ≡ taken_aside queue (job ∷ a) ++ taken_aside (queue_behind queue (job ∷ a)) b
        → cond t (taken_aside queue (a ++ b)) (first ∷ taken_aside queue (job ∷ (a ++ b)))
        ≡ cond t (taken_aside queue a) (first ∷ taken_aside queue (job ∷ a)) ++ taken_aside (cond t (queue_behind queue a) (queue_behind queue (job ∷ a))) b
    by true run pass = run
    by false run pass = ap (λ (xs : List ℕ). first ∷ xs) pass

-- ---- the first that passes a test

module _ (test : ℕ → Bool) (first job : ℕ) (queue rest : List ℕ) (is : filter test (first ∷ queue) ≡ job ∷ rest) where
  -- it is at the front,
  pub front_is : test first ≡ true → (first ≡ job) × (filter test queue ≡ rest)
  front_is e =
      let whole : first ∷ filter test queue ≡ job ∷ rest = sym (ap (λ (b : Bool). cond b (first ∷ filter test queue) (filter test queue)) e) ∙ is in
      let same : first ≡ job = cc in
      let left : filter test queue ≡ rest = cc in
      (same, left)

  -- or what is at the front is another one
  pub front_is_not : test first ≡ false → ((first == job) ≡ false) × (filter test queue ≡ job ∷ rest)
  front_is_not e =
      let left : filter test queue ≡ job ∷ rest = sym (ap (λ (b : Bool). cond b (first ∷ filter test queue) (filter test queue)) e) ∙ is in
      let passes : test job ≡ true = All-head (λ (n : ℕ). test n ≡ true) job rest (subst (All (λ (n : ℕ). test n ≡ true)) left (filter_passes test queue)) in
      let other : (first == job) ≡ false = ne_eqb first job (λ same. let no : true ≡ false = sym passes ∙ ap test (sym same) ∙ e in absurd (cc)) in
      (other, left)

module _ (test : ℕ → Bool) where
  step_fail : (first job : ℕ) (queue jobs others : List ℕ) → filter test (first ∷ queue) ≡ job ∷ (jobs ++ others)
      → (filter test queue ≡ jobs ++ others → All (λ n. test n ≡ false) (taken_aside queue jobs)) → (filter test queue ≡ job ∷ (jobs ++ others) → All (λ n. test n ≡ false) (taken_aside queue (job ∷ jobs)))
      → (b : Bool) → test first ≡ b → All (λ n. test n ≡ false) (taken_aside (first ∷ queue) (job ∷ jobs))
  step_fail first job queue jobs others is run pass true e =
      let front = front_is test first job queue (jobs ++ others) is e in
      let same : (first == job) ≡ true = eq-eqb first job front.0 in
      rw same (run front.1)
  step_fail first job queue jobs others is run pass false e =
      let front = front_is_not test first job queue (jobs ++ others) is e in
      let other = front.0 in
      rw other (All-cons (λ n. test n ≡ false) first (taken_aside queue (job ∷ jobs)) e (pass front.1))

  asides_fail : (queue jobs others : List ℕ) → filter test queue ≡ jobs ++ others → All (λ n. test n ≡ false) (taken_aside queue jobs)
  asides_fail [] jobs others is = All-nil (λ n. test n ≡ false)
  asides_fail (first ∷ queue) [] others is = All-nil (λ n. test n ≡ false)
  asides_fail (first ∷ queue) (job ∷ jobs) others is =
      step_fail first job queue jobs others is (λ left. asides_fail queue jobs others left) (λ left. asides_fail queue (job ∷ jobs) others left) (test first) refl

pub others_are_aside : OthersAreAside
others_are_aside test queue jobs others is = asides_fail test queue jobs others is

-- ---- jobs that stand in front of all others

module _ (worker_of aside_of : ℕ → ℕ) where
  events-none : (queue : List ℕ) → job_events worker_of aside_of queue [] ≡ []
  events-none [] = refl
  events-none (first ∷ queue) = refl

  front_events : (page queue : List ℕ) → job_events worker_of aside_of (page ++ queue) page ≡ flat_map (run_events worker_of) page
  front_events [] queue = events-none queue
  front_events (job ∷ page) queue =
      let same : (job == job) ≡ true = eq-eqb job job refl in
      rw same (ap (λ (events : List CoreEvent). run_events worker_of job ++ events) (front_events page queue))

front_behind : (page queue : List ℕ) → queue_behind (page ++ queue) page ≡ queue
front_behind [] queue = behind-none queue
front_behind (job ∷ page) queue =
    let same : (job == job) ≡ true = eq-eqb job job refl in
    rw same (front_behind page queue)

front_aside : (page queue : List ℕ) → taken_aside (page ++ queue) page ≡ []
front_aside [] queue = aside-none queue
front_aside (job ∷ page) queue =
    let same : (job == job) ≡ true = eq-eqb job job refl in
    rw same (front_aside page queue)

plain_events : (worker_of aside_of : ℕ → ℕ) (pages : List (List ℕ)) (others : List ℕ)
    → page_events worker_of aside_of (concat pages ++ others) pages ≡ flat_map (λ page. flat_map (run_events worker_of) page ++ Keep ∷ []) pages
plain_events worker_of aside_of [] others = refl
plain_events worker_of aside_of (page ∷ pages) others =
    let queue = concat pages ++ others in
    ap (λ (q : List ℕ). page_events worker_of aside_of q (page ∷ pages)) (append_assoc page (concat pages) others)
    ∙ ap (λ (events : List CoreEvent). (events ++ Keep ∷ []) ++ page_events worker_of aside_of (queue_behind (page ++ queue) page) pages) (front_events worker_of aside_of page queue)
    ∙ ap (λ (q : List ℕ). (flat_map (run_events worker_of) page ++ Keep ∷ []) ++ page_events worker_of aside_of q pages) (front_behind page queue)
    ∙ ap (λ (events : List CoreEvent). (flat_map (run_events worker_of) page ++ Keep ∷ []) ++ events) (plain_events worker_of aside_of pages others)

pub none_is_aside : NoneIsAside
none_is_aside worker_of aside_of pages others = record {
  events = plain_events worker_of aside_of pages others;
  aside = front_aside (concat pages) others;
  queue = front_behind (concat pages) others;
}
