use Rattle.std.proofs.Common.{[], ◌∷◌, sym, ap, ◌∙◌, subst, arith, length-append}
use Rattle.std.specs.Prelude.{All, sum_by}
use Rattle.std.proofs.lemmas.List.Sums.{sum_by_push}
use Rattle.std.proofs.lemmas.List.Elements.{All-push}
use Rattle.worker_pool.specs.Workers.{taken_of}
use Rattle.worker_pool.specs.Crews.{IsIdle, AreNumbered}
use Rattle.worker_pool.proofs.Numbered.{numbered_push}
use Rattle.worker_pool.proofs.shared.Shared.add_workers.Goals as goal

pub loop-hand-preserved : goal.loop-hand-preserved
loop-hand-preserved g c =
    let s = c.args.self.now in
    let i = c.loop-hand.invariant in
    let e = c.in_ok-push.ensures in
    let w = c.in_ok-worker.field-0 in
    let old = c.loop-hand.workers.items in
    let more = length-append c.loop-hand.yielded (c.in-Some.hand ∷ []) in
    record {
      count = omega (arith, i.count, c.next_tally-tally.ensures.count, more);
      number = omega (arith, i.number, more);
      numbers = subst (λ l. AreNumbered l) (sym e.items) (numbered_push (λ w. w.number) old w i.numbers (omega (arith, c.in_ok-worker.ensures.number, i.number, i.total)));
      total = omega (arith, i.total, e.len, more);
      tallies = c.next_tally-tally.ensures.tallies;
      taken = ap (λ l. sum_by (λ w. taken_of w) l) e.items ∙ (sum_by_push (λ w. taken_of w) old w ∙ omega (arith, i.taken, c.in_ok-worker.ensures.idle.1));
      workers = subst (λ l. All (λ w. IsIdle s w) l) (sym e.items) (All-push (λ w. IsIdle s w) old w i.workers c.in_ok-worker.ensures.idle.0);
    }
