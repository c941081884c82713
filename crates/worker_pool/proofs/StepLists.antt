-- The steps of several jobs, one after the other.
use Rattle.std.proofs.Common.{◌≡◌, ℕ, ◌+◌, List, [], ◌∷◌, ◌++◌, Some, refl, arith}
use Rattle.std.specs.Prelude.{slice_get, sum_by}
use Rattle.std.proofs.lemmas.List.Sums.{sum_by-cons}
use Rattle.fs_model.specs.declared.sites.Job.{Job}
use Rattle.fs_model.specs.Case.{CaseData}
use Rattle.fs_model.specs.Run.{cycles}
use Rattle.experiment.specs.Jobs.{steps_of_job}
use Rattle.worker_pool.specs.Steps.{steps_at, steps_of_numbers}

module _ (c : CaseData) (spacing : ℕ) (list : List Job) where
  pub steps-append : (xs ys : List ℕ) → steps_of_numbers c spacing list (xs ++ ys) ≡ steps_of_numbers c spacing list xs + steps_of_numbers c spacing list ys
  unfolding steps_of_numbers
  steps-append [] ys = omega arith
  steps-append (x ∷ xs) ys = omega (arith, steps-append xs ys)

  pub steps_none : steps_of_numbers c spacing list [] ≡ 0
  unfolding steps_of_numbers
  steps_none = refl

  pub one_steps : (n : ℕ) (job : Job) → slice_get list n ≡ Some job → steps_of_numbers c spacing list (n ∷ []) ≡ steps_of_job c spacing (cycles c) job
  unfolding steps_of_numbers
  one_steps n job at = rw at (omega arith)

  -- as a sum over the numbers
  pub steps_sum : (xs : List ℕ) → steps_of_numbers c spacing list xs ≡ sum_by (λ (n : ℕ). steps_at c spacing (slice_get list n)) xs
  unfolding steps_of_numbers
  steps_sum [] = refl
  steps_sum (x ∷ xs) = omega (arith, sum_by-cons (λ (n : ℕ). steps_at c spacing (slice_get list n)) x xs, steps_sum xs)
