use Rattle.std.proofs.Common.{◌≤◌, length, ◌∙◌, arith}
use Rattle.job_queue.specs.Hands.{claims_of, hand_view}
use Rattle.job_queue.proofs.Keeps.{length-within}
use Rattle.worker_pool.proofs.Ahead.{ran_stays, known_more, one_longer}
use Rattle.worker_pool.proofs.shared.Shared.claim_ahead.Goals as goal

pub loop-preserved : goal.loop-preserved
loop-preserved g c =
    let i = c.loop.invariant in
    let e = c.in-Some.ensures in
    let n = c.in-Some._number in
    let old = claims_of c.loop.hand in
    let new = claims_of c.claim.new.hand in
    let behind : c.args.ran ≤ length old = omega (arith, i.long) in
    record {
      hand = e.hand.0;
      page = e.hand.1 ∙ i.page;
      parts = e.hand.2 ∙ i.parts;
      ran = ran_stays c.args.ran n old new e.claims behind ∙ i.ran;
      long = omega (arith, one_longer c.args.ran n old new e.claims behind, i.long);
      known = known_more c.args.ran n old new e.claims behind _ (hand_view c.claim.new.hand).page i.known (rw (e.hand.1 ∙ i.page) c.requires.page) e.of_page;
      within = λ _. length-within new (hand_view c.claim.new.hand).page e.within;
    }
