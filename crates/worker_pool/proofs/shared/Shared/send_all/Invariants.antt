use Rattle.std.proofs.Common.{◌≡◌, ◌-◌, length}
use Rattle.std.specs.List.{AllWithin}
use Rattle.job_queue.specs.Pages.{view_of}
use Rattle.job_queue.specs.Hands.{IsFillerOf, filler_view}
use Rattle.worker_pool.specs.Crews.{IsIdle, IsSent, SameTaken}
use Rattle.worker_pool.proofs.shared.Shared.send_all.Given as goal

abbrev pub invariant-loop-worker : goal.invariant-loop-worker
invariant-loop-worker g l = record {
  filler : IsFillerOf l.self.jobs l.filler;
  view : filler_view l.filler ≡ view_of ((filler_view l.fn.filler).parts - l.worker-index) (filler_view l.fn.filler).page (filler_view l.fn.filler).claims (filler_view l.fn.filler).marks ((filler_view l.fn.filler).due - l.worker-index);
  taken : SameTaken l.fn.workers l.workers;
  sent : AllWithin (λ w. IsSent l.self w) l.workers 0 l.worker-index;
  waiting : AllWithin (λ w. IsIdle l.self w) l.workers l.worker-index (length l.workers);
}
