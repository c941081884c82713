use Rattle.std.proofs.Common.{sym, subst, arith}
use Rattle.std.specs.Prelude.{All}
use Rattle.std.proofs.lemmas.List.Elements.{All-push}
use Rattle.run_answers.specs.Reference.{IsJobIn}
use Rattle.answer_pages.specs.declared.worker.Claim.{Claim}
use Rattle.answer_pages.specs.Workers.{IsWorkerIn}
use Rattle.answer_pages.proofs.worker.add_workers.Goals as goal

pub loop-number-preserved : goal.loop-number-preserved
loop-number-preserved c =
    let case = c.args.case.now in
    let i = c.loop-number.invariant in
    let e = c.in_ok-push.ensures in
    record {
      count = omega (arith, i.count, e.len);
      ready = subst (λ l. All (λ w. IsWorkerIn case w) l) (sym e.items)
          (All-push (λ w. IsWorkerIn case w) c.loop-number.workers.items _ i.ready (record {
            runner = c.in_ok-runner.ensures;
            jobs = subst (λ l. All (λ (claim : Claim). IsJobIn case claim.job) l) (sym c.new-in-loop-number.ensures.items) (λ k d low. absurd (omega arith));
          }));
    }
