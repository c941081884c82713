-- Jobs that are taken aside: who takes them, and that nobody else has them in the hand.
use Rattle.std.proofs.Common.{All, ℕ, zero, suc, ◌≡◌, ◌+◌, ◌<◌, ◌≤◌, ◌==◌, not, ◌&&◌, ◌||◌, Bool, true, false, List, [], ◌∷◌, ◌++◌, length, refl, sym, ap, ◌∙◌, arith, eq-eqb, ne_eqb}
use Rattle.std.specs.Prelude.{Option, filter}
use Rattle.std.specs.List.{list_any}
use Rattle.std.proofs.lemmas.Bool.{eqb-true}
use Rattle.std.proofs.lemmas.Bool.Decides.{nat_tests}
use Rattle.std.proofs.lemmas.List.Elements.{All-head, All-tail}
use Rattle.event_core.specs.declared.events.HeldJob.{HeldJob}
use Rattle.fs_model.specs.declared.outcomes.Outcome.{Outcome}
use Rattle.fs_model.specs.Pages.{missing}
use Rattle.event_core.specs.EventCore.{times_listed, holds_job}
use Rattle.event_core.specs.PageEvents.{TakesAside, AsidesAreThere, hands_aside}
use Rattle.event_core.proofs.Counts.{bit, bit-same, count-cons, count-push}
use Rattle.event_core.proofs.Missed.{missing_times, missing_below}

-- ---- there are workers who take jobs aside

-- above each number that the workers of these jobs have
above : (ℕ → ℕ) → ℕ → ℕ
above worker_of zero = 0
above worker_of (suc n) = above worker_of n + (worker_of n + 1)

is_above : (worker_of : ℕ → ℕ) (jobs m : ℕ) → m < jobs → worker_of m < above worker_of jobs
unfolding above
is_above worker_of zero m lt = absurd (omega arith)
is_above worker_of (suc n) m lt = by (m == n) refl (is_above worker_of n m)
  where
    by : (b : Bool) → (m == n) ≡ b → (m < n → worker_of m < above worker_of n) → worker_of m < above worker_of n + (worker_of n + 1)
    by true e rest = let same = ap worker_of (eqb-true m n e) in omega (arith, same)
    by false e rest =
        let less : m < n = grind (arith, nat_tests) in
        let low = rest less in omega (arith, low)

pub asides_are_there : AsidesAreThere
asides_are_there jobs worker_of = (
  λ m. above worker_of jobs + m,
  record {
    own = λ m n e. omega (arith, e);
    apart = λ m n lt e. let low = is_above worker_of jobs m lt in absurd (omega (arith, e, low));
  },
)

-- ---- jobs in hands and in a queue

-- no job stands twice in these hands and this queue, and each that waits is one of so many
pub record AreFresh (jobs : ℕ) (aside queue : List ℕ) : Type 0 where
  pub once : (job : ℕ) → times_listed job aside + times_listed job queue ≤ 1
  pub known : All (λ job. job < jobs) queue

pub fresh_at_first : (board : List (Option Outcome)) → AreFresh (length board) [] (missing board)
fresh_at_first board = record {
  once = λ job. let most = missing_times board job in omega (arith, most);
  known = missing_below board;
}

module _ (jobs : ℕ) (aside queue : List ℕ) (first : ℕ) (fresh : AreFresh jobs aside (first ∷ queue)) where
  pub first_known : first < jobs
  first_known = All-head (λ job. job < jobs) first queue fresh.known

  pub first_not_aside : times_listed first aside ≡ 0
  first_not_aside = let most = fresh.once first in omega (arith, most, count-cons (λ y. y == first) first queue, bit-same first)

  pub fresh_run : AreFresh jobs aside queue
  fresh_run = record {
    once = λ job. let most = fresh.once job in omega (arith, most, count-cons (λ y. y == job) first queue);
    known = All-tail (λ job. job < jobs) first queue fresh.known;
  }

  pub fresh_aside : AreFresh jobs (aside ++ first ∷ []) queue
  fresh_aside = record {
    once = λ job. let most = fresh.once job in omega (arith, most, count-cons (λ y. y == job) first queue, count-push (λ y. y == job) aside first);
    known = All-tail (λ job. job < jobs) first queue fresh.known;
  }

-- ---- the hands

module _ (worker_of aside_of : ℕ → ℕ) (jobs : ℕ) (takes : TakesAside jobs worker_of aside_of) where
  -- a worker who runs a job has nothing else
  pub free_worker : (job : ℕ) (aside : List ℕ) → job < jobs → list_any (λ (hand : HeldJob). hand.worker == worker_of job) (hands_aside aside_of aside) ≡ false
  free_worker job [] lt = refl
  free_worker job (n ∷ aside) lt =
      let other : (aside_of n == worker_of job) ≡ false = ne_eqb (aside_of n) (worker_of job) (λ e. takes.apart job n lt (sym e)) in
      rw other (free_worker job aside lt)

  -- nor has one who takes a job aside
  pub free_aside : (job : ℕ) (aside : List ℕ) → times_listed job aside ≡ 0 → list_any (λ (hand : HeldJob). hand.worker == aside_of job) (hands_aside aside_of aside) ≡ false
  free_aside job [] none = refl
  free_aside job (n ∷ aside) none = by (n == job) refl (free_aside job aside)
    where
      by : (b : Bool) → (n == job) ≡ b → (times_listed job aside ≡ 0 → list_any (λ (hand : HeldJob). hand.worker == aside_of job) (hands_aside aside_of aside) ≡ false)
          → ((aside_of n == aside_of job) || list_any (λ (hand : HeldJob). hand.worker == aside_of job) (hands_aside aside_of aside)) ≡ false
      by true e rest = absurd (omega (arith, none, count-cons (λ y. y == job) n aside, ap bit e))
      by false e rest =
          let other : (aside_of n == aside_of job) ≡ false = ne_eqb (aside_of n) (aside_of job) (λ same. let no : (n == job) ≡ true = eq-eqb n job (takes.own n job same) in let two : true ≡ false = sym no ∙ e in absurd (cc)) in
          rw other (rest (omega (arith, none, count-cons (λ y. y == job) n aside)))

  -- the job's worker holds it behind them,
  pub holds_it : (job : ℕ) (aside : List ℕ) → holds_job (hands_aside aside_of aside ++ record { worker = worker_of job; job = job } ∷ []) (worker_of job) job ≡ true
  holds_it job [] =
      let same : (job == job) ≡ true = eq-eqb job job refl in
      let own : (worker_of job == worker_of job) ≡ true = eq-eqb (worker_of job) (worker_of job) refl in
      rw (own, same) refl
  holds_it job (n ∷ aside) = rw (holds_it job aside) (or_true (aside_of n == worker_of job) (n == job))
    where
      or_true : (a b : Bool) → (a && b || true) ≡ true
      or_true true true = refl
      or_true true false = refl
      or_true false true = refl
      or_true false false = refl

  -- and when it is filed they have what they had
  pub others_stay : (job : ℕ) (aside : List ℕ) → job < jobs
      → filter (λ (hand : HeldJob). not (hand.worker == worker_of job)) (hands_aside aside_of aside ++ record { worker = worker_of job; job = job } ∷ []) ≡ hands_aside aside_of aside
  others_stay job [] lt =
      let own : (worker_of job == worker_of job) ≡ true = eq-eqb (worker_of job) (worker_of job) refl in rw own refl
  others_stay job (n ∷ aside) lt =
      let other : (aside_of n == worker_of job) ≡ false = ne_eqb (aside_of n) (worker_of job) (λ e. takes.apart job n lt (sym e)) in
      rw other (ap (λ (hands : List HeldJob). record { worker = aside_of n; job = n } ∷ hands) (others_stay job aside lt))
