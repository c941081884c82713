use Rattle.std.proofs.Common.{ℕ, ◌<◌, List, length, ap, arith}
use Rattle.job_queue.specs.Hands.{claims_of}
use Rattle.worker_pool.specs.Workers.{jobs_of_all}
use Rattle.worker_pool.proofs.Ahead.{next_known, ahead_next}
use Rattle.worker_pool.proofs.shared.Shared.next_claim.Goals as goal

pub returns-clause-known : goal.returns-clause-known
returns-clause-known g c =
    let claims = claims_of c.claim_ahead.new.hand in
    let is = c.claims-claims.ensures.claims in
    let ahead = c.claim_ahead.ensures.ahead in
    let inside : c.args.ran < length claims = omega (arith, c.if-ran-claims.false, ahead.behind, ap (λ (l : List ℕ). length l) is) in
    rw is (next_known (length (jobs_of_all c.args.self.now)) c.args.ran claims 0 inside ahead.known)

pub returns-clause-ahead : goal.returns-clause-ahead
returns-clause-ahead g c =
    let ahead = c.claim_ahead.ensures.ahead in
    let inside : c.args.ran < length (claims_of c.claim_ahead.new.hand) = omega (arith, c.if-ran-claims.false, ahead.behind, ap (λ (l : List ℕ). length l) c.claims-claims.ensures.claims) in
    ahead_next c.args.self.now c.claim_ahead.new.hand c.args.ran inside ahead
