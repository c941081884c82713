-- The test of a job's number says that the job is due in the window.
use Rattle.std.proofs.Common.{◌≡◌, ℕ, ◌<◌, ◌↔◌, IsTrue, nat_lt, Bool, true, false, List, Option, Some, None, refl, ap, sym, ◌∙◌, arith}
use Rattle.std.specs.Prelude.{◌&&◌, slice_get}
use Rattle.std.proofs.lemmas.Bool.Decides.{nat_tests}
use Rattle.fs_model.specs.declared.sites.Job.{Job}
use Rattle.window_counts.specs.Windows.{weight_inside, IsDue, IsDueAt}
use Rattle.window_counts.proofs.Due.{due_weighs, weighs_due}
use Rattle.campaign.specs.Portions.{is_due_at, is_due_job, narrowed}

weighs : (window : List Bool) (job : Job) → 0 < weight_inside window job → nat_lt 0 (weight_inside window job) ≡ true
weighs window job some = grind (arith, nat_tests)

some_weight : (window : List Bool) (job : Job) → nat_lt 0 (weight_inside window job) ≡ true → 0 < weight_inside window job
some_weight window job is = grind (arith, nat_tests)

-- the answer of a test of the job is the test of its weight
pub tested : (window : List Bool) (job : Job) (answer : Bool) → (IsTrue answer ↔ IsDue window job) → answer ≡ nat_lt 0 (weight_inside window job)
tested window job true says = sym (weighs window job (due_weighs window job (says.0 refl)))
tested window job false says = by (nat_lt 0 (weight_inside window job)) refl
  where
    by : (t : Bool) → nat_lt 0 (weight_inside window job) ≡ t → false ≡ nat_lt 0 (weight_inside window job)
    by true is = absurd (let no : false ≡ true = says.1 (weighs_due window job (some_weight window job is)) in cc)
    by false is = sym is

pub tested_at : (window : List Bool) (list : List Job) (number : ℕ) (job : Job) (answer : Bool) → slice_get list number ≡ Some job → (IsTrue answer ↔ IsDue window job)
    → answer ≡ is_due_at window list number
unfolding is_due_at
tested_at window list number job answer is says = tested window job answer says ∙ sym (ap (is_due_job window) is)

-- the test of a number says that its job is due
due_by : (window : List Bool) (list : List Job) (number : ℕ) (place : Option Job) → slice_get list number ≡ place → is_due_job window place ≡ true → IsDueAt window list number
due_by window list number None is true_is = absurd (cc)
due_by window list number (Some job) is true_is = (job, is, weighs_due window job (some_weight window job true_is))

pub due_at : (window : List Bool) (list : List Job) (number : ℕ) → is_due_at window list number ≡ true → IsDueAt window list number
unfolding is_due_at
due_at window list number is = due_by window list number (slice_get list number) refl is

pub at_due : (window : List Bool) (list : List Job) (number : ℕ) → IsDueAt window list number → is_due_at window list number ≡ true
unfolding is_due_at
at_due window list number (job, is, due) = ap (is_due_job window) is ∙ weighs window job (due_weighs window job due)

-- ---- a portion that keeps to a window

both : (a b : Bool) → (a && b) ≡ true → (a ≡ true) × (b ≡ true)
both true b is = (refl, is)
both false b is = absurd (cc)

and_true : (a b : Bool) → a ≡ true → b ≡ true → (a && b) ≡ true
and_true true b is also = also
and_true false b is also = is

pub narrowed_due : (portion : ℕ → Bool) (window : List Bool) (list : List Job) (number : ℕ)
    → IsTrue (narrowed portion window list number) ↔ IsTrue (portion number) × IsDueAt window list number
narrowed_due portion window list number = (
  λ is. let b = both (portion number) (is_due_at window list number) is in (b.0, due_at window list number b.1),
  λ b. and_true (portion number) (is_due_at window list number) b.0 (at_due window list number b.1),
)
