-- What holds of a crew between its pages.
use Rattle.std.specs.Prelude.{◌≡◌, ◌<◌, All, vec_len}
use Rattle.job_queue.specs.Hands.{page_size_of, hands_of, IsFillerOf, IsSettledFiller}
use Rattle.worker_pool.specs.declared.own_desk.CaseLedger.{Ghosts}
use Rattle.worker_pool.specs.declared.crew.Crew.TheInside.{Inside}
use Rattle.worker_pool.specs.CrewData.{CrewData}
use Rattle.worker_pool.specs.Workers.{shared_case, spacing_of, has_shortcuts, IsShared}
use Rattle.worker_pool.specs.Crews.{IsIdle, taken_by_all}

abbrev pub crew_of : {K : Type 0} {G : Ghosts K} → Inside K G → CrewData
crew_of t = record {
  case = shared_case t.shared;
  spacing = spacing_of t.shared;
  page = page_size_of t.shared.jobs;
  shortcuts = has_shortcuts t.shared;
  taken = taken_by_all t.workers.items;
}

-- no hand is out
pub record IsCrew {K : Type 0} {G : Ghosts K} (t : Inside K G) : Type 0 where
  pub shared : IsShared t.shared
  pub filler : IsFillerOf t.shared.jobs t.filler
  pub settled : IsSettledFiller t.filler
  pub nonempty : 0 < hands_of t.shared.jobs
  pub hands : vec_len t.workers ≡ hands_of t.shared.jobs
  pub idle : All (λ w. IsIdle t.shared w) t.workers.items
