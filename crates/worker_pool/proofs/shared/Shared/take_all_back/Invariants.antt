use Rattle.std.proofs.Common.{◌≡◌, ◌+◌, ◌++◌, length, take}
use Rattle.std.specs.Prelude.{flat_map}
use Rattle.std.specs.List.{AllWithin}
use Rattle.job_queue.specs.Hands.{IsFillerOf, filler_view, claims_of}
use Rattle.worker_pool.specs.Crews.{IsDone, IsBack, SameTaken, SameClaims}
use Rattle.worker_pool.proofs.shared.Shared.take_all_back.Given as goal

abbrev pub invariant-loop-worker : goal.invariant-loop-worker
invariant-loop-worker g l = record {
  filler : IsFillerOf l.self.jobs l.filler;
  page : (filler_view l.filler).page ≡ (filler_view l.fn.filler).page;
  parts : (filler_view l.filler).parts ≡ (filler_view l.fn.filler).parts + l.worker-index;
  marks : (filler_view l.filler).marks ≡ (filler_view l.fn.filler).marks + l.worker-index;
  claims : (filler_view l.filler).claims ≡ (filler_view l.fn.filler).claims ++ flat_map (λ w. claims_of w.hand) (take l.worker-index l.workers);
  taken : SameTaken l.fn.workers l.workers;
  same : SameClaims l.fn.workers l.workers;
  back : AllWithin (λ w. IsBack l.self w) l.workers 0 l.worker-index;
  waiting : AllWithin (λ w. IsDone l.self w) l.workers l.worker-index (length l.workers);
}
