-- A function that runs the jobs of a page on the machines of a campaign.
use Rattle.std.specs.Prelude.{All, Bool, false, ◌≡◌, ℕ, ◌<◌, ◌≤◌, List, Vec, length, vec_capacity}
use Rattle.std.specs.declared.alloc.Global.{Global}
use denote.Ref.{Bor, MutBor}
use denote.Param.Members.{Shared}
use Rattle.fs_model.specs.declared.outcomes.Row.{Row}
use Rattle.fs_model.specs.Job.{jobs_in}
use Rattle.fs_model.specs.Outcome.{outcome}
use Rattle.job_queue.specs.Pages.{AreDistinct}
use Rattle.experiment.specs.Jobs.{RoseAs}
use Rattle.worker_pool.specs.CrewData.{CrewData}
use Rattle.def_use.specs.Rows.{rows_of}
use Rattle.worker_pool.specs.Steps.{steps_of_numbers}

-- these are numbers of jobs, each once, no more than a page, and there is room for their rows
pub record IsPageFor (machines : CrewData) (numbers : List ℕ) (rows : Vec Row Global) : Type 0 where
  pub apart : AreDistinct numbers
  pub known : All (λ n. n < length (jobs_in machines.case)) numbers
  pub page : length numbers ≤ machines.page
  pub room : length numbers ≤ vec_capacity rows

-- their jobs were run: the rows are theirs, in order, and the machines took their steps; or at most as many, where runs may end at
-- known states
pub record HasRunAs (meets : Bool) (old : CrewData) (numbers : List ℕ) (before : Vec Row Global) (new : CrewData) (after : Vec Row Global) : Type 0 where
  pub rows : after.items ≡ rows_of (outcome old.case) (jobs_in old.case) numbers
  pub taken : RoseAs meets (length numbers) old.taken (steps_of_numbers old.case old.spacing (jobs_in old.case) numbers) new.taken
  pub room : vec_capacity after ≡ vec_capacity before
  pub same : (new.case ≡ old.case) × (new.spacing ≡ old.spacing) × (new.page ≡ old.page) × (new.shortcuts ≡ old.shortcuts)

abbrev pub HasRun : CrewData → List ℕ → Vec Row Global → CrewData → Vec Row Global → Type 0
HasRun = HasRunAs false

-- It may be called with each such page, and has then run it. `ends_early` says whether runs may end at known states, on machines that
-- have shortcuts or have none.
pub record RunsPages {F M : Type 0} (ends_early : Bool → Bool) (seen : M → CrewData)
    (g : Shared F (MutBor M × (Bor (List ℕ) × (MutBor (Vec Row Global) × Unit {0})))
    (Unit {0} × (MutBor M × (MutBor (Vec Row Global) × Unit {0})))) (f : F) : Type 0 where
  pub takes : (machines : MutBor M) (numbers : Bor (List ℕ)) (rows : MutBor (Vec Row Global))
      → IsPageFor (seen machines.now) numbers.now rows.now → g.pre f (machines, (numbers, (rows, tt)))
  pub gives : (machines : MutBor M) (numbers : Bor (List ℕ)) (rows : MutBor (Vec Row Global)) (left : MutBor M) (after : MutBor (Vec Row Global))
      → IsPageFor (seen machines.now) numbers.now rows.now → g.post f (machines, (numbers, (rows, tt))) (tt, (left, (after, tt)))
      → HasRunAs (ends_early (seen machines.now).shortcuts) (seen machines.now) numbers.now rows.now (seen left.now) after.now
