-- What the caller's machine runs, in the words of all machines.
use Rattle.std.proofs.Common.{All, ◌≡◌, ℕ, ◌-◌, ◌^◌, ◌<◌, ◌≤◌, Bool, true, false, List, length, ap, sym, subst, ◌∙◌, arith}
use Rattle.fs_model.specs.declared.sites.Job.{Job}
use Rattle.fs_model.specs.declared.outcomes.Row.{Row}
use Rattle.fs_model.specs.Job.{jobs_in, JobTable}
use Rattle.fs_model.specs.Case.{CaseData}
use Rattle.fs_model.specs.Outcome.{outcome}
use Rattle.fs_model.specs.Run.{cycles}
use Rattle.golden_trace.specs.Goldens.{GoldenData}
use Rattle.rv_machine.specs.Machines.{MachineData}
use Rattle.snapshot_store.specs.Along.{Rose}
use Rattle.snapshot_store.specs.Stored.{SnapsData}
use Rattle.experiment.specs.Jobs.{RoseAs}
use Rattle.campaign.specs.Ready.{AreOfCase, IsReady, all_taken}
use Rattle.def_use.specs.Rows.{rows_of}
use Rattle.worker_pool.specs.Steps.{steps_of_numbers}
use Rattle.experiment.proofs.JobSites.{list_of, count_is}

module _ (c d : CaseData) (golden : GoldenData) (list : JobTable) (own : MachineData) (is : AreOfCase c golden list own) (same : d ≡ c) where
  jobs : list.list ≡ jobs_in d
  jobs = list_of c list is.list_is ∙ ap jobs_in (sym same)

  pub as_ready : (snaps : SnapsData) → snaps.case ≡ d → snaps.count ≡ cycles d → IsReady c golden list snaps own
  as_ready snaps case count = record {
    golden_is = is.golden_is;
    list_is = is.list_is;
    snaps_case = case ∙ same;
    snaps_count = count ∙ ap cycles same ∙ sym (count_is c golden is.golden_is);
    machine_case = is.machine_case;
  }

  pub known_in : (numbers : List ℕ) → All (λ n. n < length (jobs_in d)) numbers → All (λ n. n < length list.list) numbers
  known_in numbers known = subst (λ (l : List Job). All (λ n. n < length l) numbers) (sym jobs) known

  pub own_rows : (numbers : List ℕ) (rows : List Row) → rows ≡ rows_of (outcome c) list.list numbers → rows ≡ rows_of (outcome d) (jobs_in d) numbers
  own_rows numbers rows ran =
      ran
      ∙ ap (λ (x : CaseData). rows_of (outcome x) list.list numbers) (sym same)
      ∙ ap (λ (l : List Job). rows_of (outcome d) l numbers) jobs

  pub own_steps : (spacing : ℕ) (numbers : List ℕ) (before after others : ℕ) → Rose before (steps_of_numbers c spacing list.list numbers) after
      → Rose (all_taken before others) (steps_of_numbers d spacing (jobs_in d) numbers) (all_taken after others)
  own_steps spacing numbers before after others rose =
      let steps : steps_of_numbers c spacing list.list numbers ≡ steps_of_numbers d spacing (jobs_in d) numbers =
      ap (λ (x : CaseData). steps_of_numbers x spacing list.list numbers) (sym same) ∙ ap (λ (l : List Job). steps_of_numbers d spacing l numbers) jobs in
      omega (arith, rose, steps)

-- where the workers' steps rise, those of all machines do
pub all_rise : (meets : Bool) (own jobs steps before after : ℕ) → RoseAs meets jobs before steps after → RoseAs meets jobs (all_taken own before) steps (all_taken own after)
all_rise false own jobs steps before after rose = omega (arith, rose)
all_rise true own jobs steps before after rose =
    let low = rose.0 in
    let high = rose.1 in
    (omega (arith, low, high), omega (arith, low, high))
