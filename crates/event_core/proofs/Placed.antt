-- Each event keeps each job in its place.
use Rattle.std.proofs.Common.{ℕ, ◌≡◌, ◌+◌, ◌<◌, ◌≤◌, ◌==◌, nat_lt, not, ◌&&◌, Bool, true, false, cond, Some, None, List, [], ◌∷◌, ◌++◌, length, refl, ap, ◌∙◌, arith, length-append}
use Rattle.std.specs.Prelude.{unwrap_or}
use Rattle.std.specs.List.{list_any}
use Rattle.std.proofs.lemmas.Bool.{eqb-true}
use Rattle.std.proofs.lemmas.Bool.Decides.{nat_tests}
use Rattle.std.proofs.lemmas.List.{length-map}
use Rattle.event_core.specs.declared.events.CoreEvent.{CoreEvent}
use Rattle.event_core.specs.declared.events.CoreEvent.TheVariants.{Claim, File, Keep, Stop, Resume}
use Rattle.event_core.specs.declared.events.HeldJob.{HeldJob}
use Rattle.event_core.specs.EventCore.{CoreState, IsPlaced, core_start, times_listed, times_held, held_by, times_in, holds_job, is_front, is_empty_hand, behind_front, left_of, numbers_below, with_claim, with_filing, with_keep, stopped, resumed, applied, after_all, reached}
use Rattle.event_core.proofs.Counts.{bit, count-cons, count-push, count-append, count-none, count-filter-le, times-below, times-numbers, length-within, length-numbers_below, jobs_held, times-jobs_held, times-others_of}

-- no job stands in two places
pub times_in-le : (jobs : ℕ) (s : CoreState) → IsPlaced jobs s → (job : ℕ) → times_in s job ≤ 1
times_in-le jobs s h job = by s.running refl (nat_lt job jobs) refl
  where
    by : (b : Bool) → s.running ≡ b → (below : Bool) → nat_lt job jobs ≡ below → times_in s job ≤ 1
    by true e true l = let lt : job < jobs = grind (arith, nat_tests) in omega (arith, h.once e job lt)
    by b e false l = let ge : jobs ≤ job = grind (arith, nat_tests) in omega (arith, h.no_others job ge)
    by false e true l =
        let q : times_listed job s.queue ≡ 0 = ap (λ xs. times_listed job xs) (h.no_queue e) in
        let n : times_held job s.hands ≡ 0 = ap (λ xs. times_held job xs) (h.no_hands e) in
        let f : times_listed job s.filed ≡ 0 = ap (λ xs. times_listed job xs) (h.no_filed e) in
        omega (arith, h.kept_once job)

pub IsPlaced-start : (jobs : ℕ) → IsPlaced jobs (core_start jobs)
IsPlaced-start jobs = record {
  same_jobs = refl;
  once = λ e. absurd cc;
  no_queue = λ e. refl;
  no_hands = λ e. refl;
  no_filed = λ e. refl;
  kept_once = λ job. omega arith;
  no_others = λ job h. refl;
  one_each = λ worker. omega arith;
}

module _ (jobs : ℕ) (s : CoreState) (h : IsPlaced jobs s) where
  -- ---- a claim

  claim_times : (worker job : ℕ) → is_front s.queue job ≡ true → (x : ℕ) → times_in (with_claim s worker job) x ≡ times_in s x
  claim_times worker job front x = by s.queue refl front
    where
      by : (queue : List ℕ) → s.queue ≡ queue → is_front queue job ≡ true →
          times_listed x (behind_front s.queue) + times_held x (s.hands ++ record { worker = worker; job = job } ∷ []) + times_listed x s.filed + times_listed x s.kept ≡ times_listed x s.queue + times_held x s.hands + times_listed x s.filed + times_listed x s.kept
      by [] e front = absurd cc
      by (first ∷ others) e front =
          let same : bit (first == x) ≡ bit (job == x) = ap (λ y. bit (y == x)) (eqb-true first job front) in
          rw e (omega (arith, count-cons (λ y. y == x) first others, count-push (λ (y : HeldJob). y.job == x) s.hands (record { worker = worker; job = job }), same))

  claim_runs : (job : ℕ) → is_front s.queue job ≡ true → s.running ≡ true
  claim_runs job front = by s.running refl
    where
      by : (b : Bool) → s.running ≡ b → s.running ≡ true
      by true e = e
      by false e = let f : is_front s.queue job ≡ false = ap (λ q. is_front q job) (h.no_queue e) in absurd cc

  claim_one : (worker job : ℕ) → is_empty_hand s.hands worker ≡ true → (other : ℕ) → held_by other (s.hands ++ record { worker = worker; job = job } ∷ []) ≤ 1
  claim_one worker job free other =
      rw (count-push (λ (y : HeldJob). y.worker == other) s.hands (record { worker = worker; job = job })) (by (worker == other) refl)
    where
      none : (b : Bool) → list_any (λ (y : HeldJob). y.worker == worker) s.hands ≡ b → not b ≡ true → held_by worker s.hands ≡ 0
      none true e f = absurd cc
      none false e f = count-none (λ (y : HeldJob). y.worker == worker) s.hands e

      by : (b : Bool) → (worker == other) ≡ b → held_by other s.hands + bit b ≤ 1
      by false e = omega (arith, h.one_each other)
      by true e =
          let z : held_by worker s.hands ≡ 0 = none (list_any (λ (y : HeldJob). y.worker == worker) s.hands) refl free in
          let m : held_by worker s.hands ≡ held_by other s.hands = ap (λ w. held_by w s.hands) (eqb-true worker other e) in
          omega arith

  pub IsPlaced-claim : (worker job : ℕ) → is_front s.queue job ≡ true → is_empty_hand s.hands worker ≡ true → IsPlaced jobs (with_claim s worker job)
  IsPlaced-claim worker job front free =
      let runs : s.running ≡ true = claim_runs job front in
      record {
        same_jobs = h.same_jobs;
        once = λ e x l. claim_times worker job front x ∙ h.once e x l;
        no_queue = λ e. absurd cc;
        no_hands = λ e. absurd cc;
        no_filed = λ e. h.no_filed e;
        kept_once = h.kept_once;
        no_others = λ x l. claim_times worker job front x ∙ h.no_others x l;
        one_each = claim_one worker job free;
      }

  -- ---- a filing

  file_times : (worker job : ℕ) → holds_job s.hands worker job ≡ true → (x : ℕ) → times_in (with_filing s worker job) x ≡ times_in s x
  file_times worker job held x = omega (arith, count-push (λ y. y == x) s.filed job, times-others_of worker job s.hands held (h.one_each worker) x)

  file_runs : (worker job : ℕ) → holds_job s.hands worker job ≡ true → s.running ≡ true
  file_runs worker job held = by s.running refl
    where
      by : (b : Bool) → s.running ≡ b → s.running ≡ true
      by true e = e
      by false e = let f : holds_job s.hands worker job ≡ false = ap (λ hands. holds_job hands worker job) (h.no_hands e) in absurd cc

  pub IsPlaced-file : (worker job : ℕ) → holds_job s.hands worker job ≡ true → IsPlaced jobs (with_filing s worker job)
  IsPlaced-file worker job held =
      let runs : s.running ≡ true = file_runs worker job held in
      record {
        same_jobs = h.same_jobs;
        once = λ e x l. file_times worker job held x ∙ h.once e x l;
        no_queue = λ e. h.no_queue e;
        no_hands = λ e. absurd cc;
        no_filed = λ e. absurd cc;
        kept_once = h.kept_once;
        no_others = λ x l. file_times worker job held x ∙ h.no_others x l;
        one_each = λ other. omega (arith, h.one_each other, count-filter-le (λ (y : HeldJob). y.worker == other) (λ (y : HeldJob). not (y.worker == worker)) s.hands);
      }

  -- ---- a keep, a stop and a resume

  keep_times : (x : ℕ) → times_in (with_keep s) x ≡ times_in s x
  keep_times x = omega (arith, count-append (λ y. y == x) s.kept s.filed)

  pub IsPlaced-keep : IsPlaced jobs (with_keep s)
  IsPlaced-keep = record {
    same_jobs = h.same_jobs;
    once = λ e x l. keep_times x ∙ h.once e x l;
    no_queue = h.no_queue;
    no_hands = h.no_hands;
    no_filed = λ e. refl;
    kept_once = λ x. omega (arith, keep_times x, times_in-le jobs s h x);
    no_others = λ x l. keep_times x ∙ h.no_others x l;
    one_each = h.one_each;
  }

  pub IsPlaced-stop : IsPlaced jobs (stopped s)
  IsPlaced-stop = record {
    same_jobs = h.same_jobs;
    once = λ e. absurd cc;
    no_queue = λ e. refl;
    no_hands = λ e. refl;
    no_filed = λ e. refl;
    kept_once = h.kept_once;
    no_others = λ x l. omega (arith, h.no_others x l);
    one_each = λ worker. omega arith;
  }

  left_times : (x : ℕ) → times_listed x (left_of s) ≡ bit (nat_lt x jobs && times_listed x s.kept == 0)
  left_times x = times-below (λ job. times_listed job s.kept == 0) s.jobs x ∙ ap (λ n. bit (nat_lt x n && times_listed x s.kept == 0)) h.same_jobs

  resume_times : s.running ≡ false → (x : ℕ) → times_in (resumed s) x ≡ bit (nat_lt x jobs && times_listed x s.kept == 0) + times_listed x s.kept
  resume_times stop x =
      let n : times_held x s.hands ≡ 0 = ap (λ xs. times_held x xs) (h.no_hands stop) in
      let f : times_listed x s.filed ≡ 0 = ap (λ xs. times_listed x xs) (h.no_filed stop) in
      omega (arith, left_times x)

  pub IsPlaced-resume : s.running ≡ false → IsPlaced jobs (resumed s)
  IsPlaced-resume stop = record {
    same_jobs = h.same_jobs;
    once = λ e x l. resume_times stop x ∙ inside x l (times_listed x s.kept) (h.kept_once x);
    no_queue = λ e. absurd cc;
    no_hands = λ e. h.no_hands stop;
    no_filed = λ e. h.no_filed stop;
    kept_once = h.kept_once;
    no_others = λ x l. resume_times stop x ∙ outside x l (times_listed x s.kept) (omega (arith, h.no_others x l));
    one_each = h.one_each;
  }
    where
      inside : (x : ℕ) → x < jobs → (n : ℕ) → n ≤ 1 → bit (nat_lt x jobs && n == 0) + n ≡ 1
      inside x l n most = let lt : nat_lt x jobs ≡ true = grind (arith, nat_tests) in rw lt (grind (arith, nat_tests))

      outside : (x : ℕ) → jobs ≤ x → (n : ℕ) → n ≡ 0 → bit (nat_lt x jobs && n == 0) + n ≡ 0
      outside x l n none = let lt : nat_lt x jobs ≡ false = grind (arith, nat_tests) in rw (lt, none) refl

-- ---- every event, and every list of them

pub IsPlaced-applied : (jobs : ℕ) (s : CoreState) (event : CoreEvent) → IsPlaced jobs s → IsPlaced jobs (applied s event)
IsPlaced-applied jobs s (Claim worker job) h = by (is_front s.queue job) refl (is_empty_hand s.hands worker) refl
  where
    by : (a : Bool) → is_front s.queue job ≡ a → (b : Bool) → is_empty_hand s.hands worker ≡ b → IsPlaced jobs (unwrap_or (cond (a && b) (Some (with_claim s worker job)) None) s)
    by true front true free = IsPlaced-claim jobs s h worker job front free
    by true front false free = h
    by false front b free = h
IsPlaced-applied jobs s (File worker job) h = by (holds_job s.hands worker job) refl
  where
    by : (b : Bool) → holds_job s.hands worker job ≡ b → IsPlaced jobs (unwrap_or (cond b (Some (with_filing s worker job)) None) s)
    by true held = IsPlaced-file jobs s h worker job held
    by false held = h
IsPlaced-applied jobs s Keep h = IsPlaced-keep jobs s h
IsPlaced-applied jobs s (Stop true) h = IsPlaced-stop jobs (with_keep s) (IsPlaced-keep jobs s h)
IsPlaced-applied jobs s (Stop false) h = IsPlaced-stop jobs s h
IsPlaced-applied jobs s Resume h = by s.running refl
  where
    by : (b : Bool) → s.running ≡ b → IsPlaced jobs (unwrap_or (cond b None (Some (resumed s))) s)
    by true e = h
    by false e = IsPlaced-resume jobs s h e

pub IsPlaced-after_all : (jobs : ℕ) (events : List CoreEvent) (s : CoreState) → IsPlaced jobs s → IsPlaced jobs (after_all events s)
IsPlaced-after_all jobs [] s h = h
IsPlaced-after_all jobs (event ∷ events) s h = IsPlaced-after_all jobs events (applied s event) (IsPlaced-applied jobs s event h)

pub IsPlaced-reached : (jobs : ℕ) (events : List CoreEvent) → IsPlaced jobs (reached jobs events)
IsPlaced-reached jobs events = IsPlaced-after_all jobs events (core_start jobs) (IsPlaced-start jobs)

-- ---- how long the lists are

-- all jobs that stand in a place
all_in : CoreState → List ℕ
all_in s = s.queue ++ (jobs_held s.hands ++ (s.filed ++ s.kept))

times-all_in : (s : CoreState) (x : ℕ) → times_listed x (all_in s) ≡ times_in s x
unfolding all_in
times-all_in s x =
    omega (arith, count-append (λ y. y == x) s.queue (jobs_held s.hands ++ (s.filed ++ s.kept)), count-append (λ y. y == x) (jobs_held s.hands) (s.filed ++ s.kept), count-append (λ y. y == x) s.filed s.kept, times-jobs_held x s.hands)

all_within : (jobs : ℕ) (s : CoreState) → IsPlaced jobs s → (x : ℕ) → times_listed x (all_in s) ≤ times_listed x (numbers_below jobs)
all_within jobs s h x = rw (times-all_in s x, times-numbers jobs x) (by (nat_lt x jobs) refl)
  where
    by : (b : Bool) → nat_lt x jobs ≡ b → times_in s x ≤ bit b
    by true e = times_in-le jobs s h x
    by false e = let ge : jobs ≤ x = grind (arith, nat_tests) in omega (arith, h.no_others x ge)

-- the lists together are no longer than there are jobs
pub lengths-le : (jobs : ℕ) (s : CoreState) → IsPlaced jobs s → length s.queue + length s.hands + length s.filed + length s.kept ≤ jobs
unfolding all_in
lengths-le jobs s h =
    omega (arith, length-within (all_in s) (numbers_below jobs) (all_within jobs s h), length-numbers_below jobs, length-append s.queue (jobs_held s.hands ++ (s.filed ++ s.kept)), length-append (jobs_held s.hands) (s.filed ++ s.kept), length-append s.filed s.kept, length-map s.hands (λ (hand : HeldJob). hand.job))

-- a job in a hand leaves room for it where it is filed, and one in the queue where it is claimed
pub claim-room : (jobs : ℕ) (s : CoreState) (job : ℕ) → IsPlaced jobs s → is_front s.queue job ≡ true → length s.hands < jobs
claim-room jobs s job h front = by s.queue refl front
  where
    by : (queue : List ℕ) → s.queue ≡ queue → is_front queue job ≡ true → length s.hands < jobs
    by [] e front = absurd cc
    by (first ∷ others) e front = omega (arith, lengths-le jobs s h, ap length e)

pub file-room : (jobs : ℕ) (s : CoreState) (worker job : ℕ) → IsPlaced jobs s → holds_job s.hands worker job ≡ true → length s.filed < jobs
file-room jobs s worker job h held = by s.hands refl held
  where
    by : (hands : List HeldJob) → s.hands ≡ hands → holds_job hands worker job ≡ true → length s.filed < jobs
    by [] e held = absurd cc
    by (first ∷ others) e held = omega (arith, lengths-le jobs s h, ap length e)
