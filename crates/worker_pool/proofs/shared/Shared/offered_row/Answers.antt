use Rattle.std.proofs.Common.{ℕ, List, ap, ◌∙◌, arith, take}
use Rattle.std.specs.Prelude.{flat_map}
use Rattle.std.proofs.lemmas.List.Elements.{All-contains}
use Rattle.fs_model.specs.Outcome.{outcome}
use Rattle.fs_model.specs.Verdict.{IsRight, site_of_row}
use Rattle.job_queue.specs.Pages.{times_among}
use Rattle.job_queue.specs.Hands.{claims_of}
use Rattle.worker_pool.specs.Crews.{IsBack}
use Rattle.worker_pool.proofs.Offers.{right_row, holds_at, flat_map-take, offered_none, times-append}
use Rattle.worker_pool.proofs.shared.Shared.offered_row.Goals as goal

pub returns-in-Some-clause-some : goal.returns-in-Some-clause-some
returns-in-Some-clause-some g c =
    let s = c.args.self.now in
    let w = c.worker-item.result in
    let row = c.in-Some.row in
    let back = holds_at (λ w. IsBack s w) c.args.workers.now c.loop-worker.worker-index w c.loop-worker-test.true c.worker-item.is c.requires.back in
    let right = All-contains (IsRight w.tally.case) c.offered.result.now row c.offered.ensures.right c.in-Some.ensures.some.0 in
    let here : IsRight s.case.now row = right ∙ ap (λ case. outcome case (site_of_row row)) back.0.0.2 in
    right_row s.case.now row c.args.job.now here c.in-Some.ensures.some.1

pub loop-worker-preserved : goal.loop-worker-preserved
loop-worker-preserved g c =
    let s = c.args.self.now in
    let w = c.worker-item.result in
    let xs = c.args.workers.now in
    let i = c.loop-worker.worker-index in
    let back = holds_at (λ w. IsBack s w) xs i w c.loop-worker-test.true c.worker-item.is c.requires.back in
    let more = flat_map-take (λ w. claims_of w.hand) xs i w c.loop-worker-test.true c.worker-item.is in
    let none = offered_none (outcome s.case.now) s.list.now.list c.args.number c.args.job.now c.requires.job c.offered.result.now (claims_of w.hand) (c.offered.ensures.rows ∙ back.1) c.in_default.ensures.none in
    let sum = ap (λ (l : List ℕ). times_among c.args.number l) more ∙ times-append c.args.number (flat_map (λ w. claims_of w.hand) (take i xs)) (claims_of w.hand) in
    omega (arith, none, sum, c.loop-worker.invariant)
