use Rattle.std.proofs.Common.{◌≡◌, ◌<◌, ◌++◌, take, length}
use Rattle.std.specs.Prelude.{vec_len}
use Rattle.job_queue.specs.Hands.{IsOut, claims_of, hand_view}
use Rattle.experiment.specs.Jobs.{RoseAs}
use Rattle.worker_pool.specs.declared.worker.TheConstants.{MOST_WAITING}
use Rattle.worker_pool.specs.Waiting.{AreWaiting}
use Rattle.worker_pool.specs.Workers.{IsAhead, IsWorkerOf, has_shortcuts, rows_run, steps_in, taken_of}
use Rattle.worker_pool.proofs.Since.{since}
use Rattle.worker_pool.proofs.worker.Worker.work.Given as goal

abbrev pub invariant-loop : goal.invariant-loop
invariant-loop g l = record {
  along : l.walk ≡ l.shared.list.now;
  worker : IsWorkerOf l.shared l.self;
  out : IsOut l.self.hand;
  page : (hand_view l.self.hand).page ≡ (hand_view l.fn.self.hand).page;
  ahead : IsAhead l.shared l.self.hand l.ran;
  claims : take l.ran (claims_of l.self.hand) ≡ claims_of l.fn.self.hand ++ since (claims_of l.fn.self.hand) (take l.ran (claims_of l.self.hand));
  rows : l.self.tally.offered ++ l.self.waiting.items ≡ rows_run l.shared (since (claims_of l.fn.self.hand) (take l.ran (claims_of l.self.hand)));
  waiting : AreWaiting l.self.tally l.self.waiting.items;
  few : vec_len l.self.waiting < MOST_WAITING;
  taken : RoseAs (has_shortcuts l.shared) (length (since (claims_of l.fn.self.hand) (take l.ran (claims_of l.self.hand)))) (taken_of l.fn.self) (steps_in l.shared (since (claims_of l.fn.self.hand) (take l.ran (claims_of l.self.hand)))) (taken_of l.self);
  number : l.self.number ≡ l.fn.self.number;
  parts : l.self.tally.parts ≡ l.fn.self.tally.parts;
}
