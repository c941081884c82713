-- A campaign that can go on.
use Rattle.std.specs.Prelude.{◌≡◌, ℕ, ◌+◌, ◌-◌, ◌^◌, Bool, false, List, min, None, Option, length}
use Rattle.fs_model.specs.Job.{jobs_in, JobTable, jobs_of}
use Rattle.fs_model.specs.Case.{CaseData}
use Rattle.fs_model.specs.AccessLog.{log}
use Rattle.golden_trace.specs.Goldens.{GoldenData, IsGolden}
use Rattle.result_keeper.specs.Keep.{KeeperData, IsKept}
use Rattle.rv_machine.specs.Machines.{MachineData}
use Rattle.snapshot_store.specs.Stored.{SnapsData}
use Rattle.campaign.specs.Portions.{within_window}
use Rattle.campaign.specs.Shards.{in_shard}

-- its keeper, the distance of its kept states, whether its workers have shortcuts, how many rows a call appends at most, of which
-- shard, the window whose due jobs alone it runs, if one is given, and the steps that it took
pub record ReadyData : Type 0 where
  pub keeper : KeeperData
  pub spacing : ℕ
  pub shortcuts : Bool
  pub budget : Option ℕ
  pub shard : Option (ℕ × ℕ)
  pub window : Option (List Bool)
  pub taken : ℕ

-- the jobs that it runs: those of the shard, or all, and of these the ones that are due in the window, if one is given
abbrev pub portion_of : ReadyData → ℕ → Bool
portion_of ready = within_window (in_shard ready.shard) ready.window (jobs_in ready.keeper.case)

-- it is one of this case, keeps to no window, has no shortcuts, has had no fault, and took no step yet
pub record IsPrepared (ready : ReadyData) (case : CaseData) (page spacing : ℕ) (budget : Option ℕ) (shard : Option (ℕ × ℕ)) : Type 0 where
  pub keeper : IsKept ready.keeper case (jobs_in case) page
  pub same_spacing : ready.spacing ≡ spacing
  pub same_budget : ready.budget ≡ budget
  pub same_shard : ready.shard ≡ shard
  pub no_window : ready.window ≡ None
  pub no_shortcuts : ready.shortcuts ≡ false
  pub no_step : ready.taken ≡ 0

-- the steps of the caller's machine and of the workers', up to 2 ^ 64 - 1
abbrev pub all_taken : ℕ → ℕ → ℕ
all_taken own others = min (own + others) (2 ^ 64 - 1)

-- ---- what it holds

-- the golden run, the jobs and the caller's machine are those of the case
pub record AreOfCase (c : CaseData) (golden : GoldenData) (list : JobTable) (machine : MachineData) : Type 0 where
  pub golden_is : IsGolden c golden
  pub list_is : list ≡ jobs_of (log c)
  pub machine_case : machine.case ≡ c

-- all of it is of the one case
pub record IsReady (c : CaseData) (golden : GoldenData) (list : JobTable) (snaps : SnapsData) (machine : MachineData) : Type 0 where
  pub golden_is : IsGolden c golden
  pub list_is : list ≡ jobs_of (log c)
  pub snaps_case : snaps.case ≡ c
  pub snaps_count : snaps.count ≡ length golden.touches
  pub machine_case : machine.case ≡ c
