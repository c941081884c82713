use Rattle.std.proofs.Common.{◌≡◌, ℕ, ◌<◌, false}
use Rattle.std.specs.Prelude.{slice_index_or}
use Rattle.answer_pages.specs.declared.worker.Worker.{Worker}
use Rattle.answer_pages.proofs.pages.is_refused.Given as goal

abbrev pub invariant-loop-worker : goal.invariant-loop-worker
invariant-loop-worker l = (k : ℕ) (d : Worker) → k < l.worker-index → (slice_index_or l.workers k d).refused ≡ false
