-- What all workers share, of the case that a contract sees.
use Rattle.std.proofs.Common.{All, ◌≡◌, ℕ, ◌<◌, List, length, refl, sym, ap, ◌∙◌, subst}
use Rattle.fs_model.specs.declared.sites.Job.{Job}
use Rattle.fs_model.specs.Job.{jobs_in, JobTable, jobs_of}
use Rattle.fs_model.specs.AccessLog.{log}
use Rattle.fs_model.specs.Case.{CaseData}
use Rattle.fs_model.specs.Outcome.{outcome}
use Rattle.snapshot_store.specs.Stored.{SnapsData}
use Rattle.def_use.specs.Rows.{rows_of}
use Rattle.worker_pool.specs.Steps.{steps_of_numbers}
use Rattle.experiment.proofs.JobSites.{list_of}

pub snaps_are : (s : SnapsData) (c : CaseData) (spacing count : ℕ) → s.case ≡ c → s.spacing ≡ spacing → s.count ≡ count → s ≡ record { case = c; spacing = spacing; count = count }
snaps_are s c spacing count a b d = rw (sym a, sym b, sym d) refl

module _ (c seen : CaseData) (list : JobTable) (is : list ≡ jobs_of (log c)) (same : c ≡ seen) where
  pub jobs_same : list.list ≡ jobs_in seen
  jobs_same = list_of c list is ∙ ap (λ (x : CaseData). jobs_in x) same

  pub rows_same : (numbers : List ℕ) → rows_of (outcome c) list.list numbers ≡ rows_of (outcome seen) (jobs_in seen) numbers
  rows_same numbers = ap (λ (l : List Job). rows_of (outcome c) l numbers) jobs_same ∙ ap (λ (x : CaseData). rows_of (outcome x) (jobs_in seen) numbers) same

  pub steps_same : (k spacing : ℕ) (numbers : List ℕ) → k ≡ spacing → steps_of_numbers c k list.list numbers ≡ steps_of_numbers seen spacing (jobs_in seen) numbers
  steps_same k spacing numbers e =
      ap (λ (l : List Job). steps_of_numbers c k l numbers) jobs_same
      ∙ (ap (λ (x : CaseData). steps_of_numbers x k (jobs_in seen) numbers) same ∙ ap (λ (n : ℕ). steps_of_numbers seen n (jobs_in seen) numbers) e)

  pub known_here : (numbers : List ℕ) → All (λ n. n < length (jobs_in seen)) numbers → All (λ n. n < length list.list) numbers
  known_here numbers known = subst (λ (l : List Job). All (λ n. n < length l) numbers) (sym jobs_same) known
