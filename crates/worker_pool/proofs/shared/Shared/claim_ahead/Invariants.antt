use Rattle.std.proofs.Common.{◌≡◌, ◌+◌, ◌<◌, ◌≤◌, All, length, take}
use Rattle.std.specs.Prelude.{drop}
use Rattle.job_queue.specs.Hands.{claims_of, hand_view, IsHandOf}
use Rattle.worker_pool.specs.Workers.{jobs_of_all}
use Rattle.worker_pool.proofs.shared.Shared.claim_ahead.Given as goal

abbrev pub invariant-loop : goal.invariant-loop
invariant-loop g l = record {
  hand : IsHandOf l.self.jobs l.hand;
  page : (hand_view l.hand).page ≡ (hand_view l.fn.hand).page;
  parts : (hand_view l.hand).parts ≡ (hand_view l.fn.hand).parts;
  ran : take l.ran (claims_of l.hand) ≡ take l.ran (claims_of l.fn.hand);
  long : length (claims_of l.hand) ≡ l.ran + l.counter;
  known : All (λ n. n < length (jobs_of_all l.self)) (drop l.ran (claims_of l.hand));
  within : 0 < l.counter → length (claims_of l.hand) ≤ length (hand_view l.hand).page;
}
