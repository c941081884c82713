-- What the kept jobs weigh, once each job is kept.
use Rattle.std.proofs.Common.{ℕ, zero, suc, ◌≡◌, ◌+◌, ◌<◌, ◌≤◌, nat_lt, Bool, true, false, cond, Option, Some, List, [], ◌∷◌, length, take, get_or, refl, sym, ap, ◌∙◌, arith}
use Rattle.std.specs.Prelude.{filter, sum_by, slice_get}
use Rattle.std.proofs.lemmas.Bool.Decides.{nat_tests}
use Rattle.std.proofs.lemmas.List.{take_all}
use Rattle.std.proofs.lemmas.List.Sums.{sum_by-cons, sum_by_push, sum_by_more}
use Rattle.std.proofs.lemmas.Option.{slice_get-get_or}
use Rattle.event_core.specs.declared.events.CoreEvent.{CoreEvent}
use Rattle.fs_model.specs.declared.sites.Job.{Job}
use Rattle.fs_model.specs.declared.sites.Site.{Site}
use Rattle.fs_model.specs.declared.outcomes.Outcome.{Outcome}
use Rattle.fs_model.specs.declared.outcomes.Outcome.TheVariants.{NoEffect}
use Rattle.fs_model.specs.AccessLog.{log, dead}
use Rattle.fs_model.specs.Job.{job_list, site_of, total}
use Rattle.fs_model.specs.Outcome.{outcome, same_outcome}
use Rattle.event_core.specs.EventCore.{IsPlaced, times_listed, numbers_below, reached, weight_at, weights, KeptCounts}
use Rattle.fs_model.proofs.Pruned.{pruned_totals}
use Rattle.event_core.proofs.Counts.{bit, sum_by-same, times-numbers}
use Rattle.event_core.proofs.Placed.{IsPlaced-reached}

-- where each job is kept, kept has the numbers of all jobs
kept_all : (jobs : ℕ) (events : List CoreEvent) → ((job : ℕ) → job < jobs → 0 < times_listed job (reached jobs events).kept) → (x : ℕ) → times_listed x (reached jobs events).kept ≡ times_listed x (numbers_below jobs)
kept_all jobs events all x = rw (times-numbers jobs x) (by (nat_lt x jobs) refl)
  where
    placed : IsPlaced jobs (reached jobs events)
    placed = IsPlaced-reached jobs events

    by : (b : Bool) → nat_lt x jobs ≡ b → times_listed x (reached jobs events).kept ≡ bit b
    by true e = let lt : x < jobs = grind (arith, nat_tests) in omega (arith, all x lt, (IsPlaced-reached jobs events).kept_once x)
    by false e = let ge : jobs ≤ x = grind (arith, nat_tests) in omega (arith, (IsPlaced-reached jobs events).no_others x ge)

-- a sum over the numbers of a list is one over its elements
sum_by-numbers : {X : Type 0} (g : Option X → ℕ) (xs : List X) (d : X) (n : ℕ) → n ≤ length xs → sum_by (λ i. g (slice_get xs i)) (numbers_below n) ≡ sum_by (λ x. g (Some x)) (take n xs)
sum_by-numbers g xs d zero h = refl
sum_by-numbers g xs d (suc n) h =
    let lt : n < length xs = omega arith in
    let here : g (slice_get xs n) ≡ g (Some (get_or xs n d)) = ap g (slice_get-get_or xs n d lt) in
    let more = sum_by_more (λ x. g (Some x)) xs n d lt in
    let one : n + 1 ≡ suc n = omega arith in
    sum_by_push (λ i. g (slice_get xs i)) (numbers_below n) n
    ∙ (let rest : sum_by (λ i. g (slice_get xs i)) (numbers_below n) ≡ sum_by (λ x. g (Some x)) (take n xs) = sum_by-numbers g xs d n (omega arith) in omega arith)
    ∙ sym more
    ∙ ap (λ m. sum_by (λ x. g (Some x)) (take m xs)) one

sum_by-all_numbers : {X : Type 0} (g : Option X → ℕ) (xs : List X) → sum_by (λ i. g (slice_get xs i)) (numbers_below (length xs)) ≡ sum_by (λ x. g (Some x)) xs
sum_by-all_numbers g [] = refl
sum_by-all_numbers g (x ∷ xs) =
    sum_by-numbers g (x ∷ xs) x (length (x ∷ xs)) (omega arith) ∙ ap (λ ys. sum_by (λ y. g (Some y)) ys) (take_all (length (x ∷ xs)) (x ∷ xs) (omega arith))

-- the weights of all jobs are the total over the list
weights-total : (outcomes : Site → Outcome) (o : Outcome) (list : List Job) → sum_by (λ job. weight_at outcomes (Some job) o) list ≡ total outcomes list o
unfolding total
weights-total outcomes o [] = refl
weights-total outcomes o (job ∷ list) =
    sum_by-cons (λ j. weight_at outcomes (Some j) o) job list ∙ (rw (weights-total outcomes o list) (by (same_outcome (outcomes (site_of job)) o)))
  where
    by : (b : Bool) → cond b job.weight 0 + sum_by (λ (j : Job). j.weight) (filter (λ j. same_outcome (outcomes (site_of j)) o) list) ≡ sum_by (λ (j : Job). j.weight) (cond b (job ∷ filter (λ j. same_outcome (outcomes (site_of j)) o) list) (filter (λ j. same_outcome (outcomes (site_of j)) o) list))
    by true = sym (sum_by-cons (λ (j : Job). j.weight) job (filter (λ j. same_outcome (outcomes (site_of j)) o) list))
    by false = omega arith

weights-kept : (outcomes : Site → Outcome) (list : List Job) (events : List CoreEvent) (o : Outcome) → ((job : ℕ) → job < length list → 0 < times_listed job (reached (length list) events).kept) → weights outcomes list (reached (length list) events).kept o ≡ total outcomes list o
weights-kept outcomes list events o all =
    sum_by-same (λ number. weight_at outcomes (slice_get list number) o) (reached (length list) events).kept (numbers_below (length list)) (kept_all (length list) events all)
    ∙ sum_by-all_numbers (λ job. weight_at outcomes job o) list
    ∙ weights-total outcomes o list

pub kept_counts : KeptCounts
kept_counts c events o all =
    pruned_totals c o ∙ ap (λ n. n + cond (same_outcome NoEffect o) (dead (log c)) 0) (sym (weights-kept (outcome c) (job_list (log c)) events o all))
