-- What injected runs are compared with, and which jobs are answered.
use Rattle.std.specs.Prelude.{◌≡◌, ℕ, Some, length, slice_get}
use Rattle.fs_model.specs.declared.sites.Job.{Job}
use Rattle.fs_model.specs.Case.{CaseData}
use Rattle.fs_model.specs.Job.{jobs_in}
use Rattle.golden_trace.specs.Goldens.{GoldenData, IsGolden}
use Rattle.snapshot_store.specs.Stored.{SnapsData}

-- the golden run and its stored states are those of the case
pub record IsReferenceOf (c : CaseData) (golden : GoldenData) (snaps : SnapsData) : Type 0 where
  pub golden_is : IsGolden c golden
  pub snaps_case : snaps.case ≡ c
  pub snaps_count : snaps.count ≡ length golden.touches

-- the case has the job
pub record IsJobIn (c : CaseData) (job : Job) : Type 0 where
  pub number : ℕ
  pub at : slice_get (jobs_in c) number ≡ Some job
