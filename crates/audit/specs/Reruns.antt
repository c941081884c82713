-- What runs the jobs of a case again.
use Rattle.std.specs.Prelude.{◌≡◌, ℕ, Some, length, slice_get}
use Rattle.fs_model.specs.declared.sites.Job.{Job}
use Rattle.fs_model.specs.Case.{CaseData}
use Rattle.fs_model.specs.Job.{jobs_in}
use Rattle.golden_trace.specs.Goldens.{GoldenData, IsGolden}
use Rattle.rv_machine.specs.Machines.{MachineData}
use Rattle.snapshot_store.specs.Stored.{SnapsData}

-- the case has the job
pub record IsJobOf (c : CaseData) (job : Job) : Type 0 where
  pub number : ℕ
  pub at : slice_get (jobs_in c) number ≡ Some job

-- the golden run, the kept states and the machine are those of the case
pub record IsReadyToRerun (c : CaseData) (golden : GoldenData) (snaps : SnapsData) (machine : MachineData) : Type 0 where
  pub golden_is : IsGolden c golden
  pub snaps_case : snaps.case ≡ c
  pub snaps_count : snaps.count ≡ length golden.touches
  pub machine_case : machine.case ≡ c
