use Rattle.std.proofs.Common.{◌≡◌, ◌<◌, length, refl, sym, subst, ◌∙◌, arith}
use Rattle.std.proofs.lemmas.List.{length-set}
use Rattle.std.proofs.lemmas.List.Elements.{All-set}
use Rattle.worker_pool.specs.Workers.{IsKnownIn, taken_of}
use Rattle.worker_pool.specs.Crews.{IsIdle}
use Rattle.worker_pool.proofs.Near.{made_for}
use Rattle.worker_pool.proofs.StepSums.{one_replaced}
use Rattle.worker_pool.proofs.shared.Shared.equip_all.Goals as goal

pub loop-place-preserved : goal.loop-place-preserved
loop-place-preserved g c =
    let s = c.args.self.now in
    let i = c.loop-place.invariant in
    let ws = c.loop-place.workers in
    let place = c.loop-place.place in
    let w = c.index-workers-place.result in
    let inside : place < length ws = omega (arith, i.long, c.loop-place-test.true) in
    let was = i.idle place w inside in
    let known : IsKnownIn s c.ok.result = subst (λ o. IsKnownIn s o) (sym c.ok.ensures.value) (made_for c.new.result c.reference.result.case.now s.case.now c.new.ensures c.reference.ensures.case) in
    record {
      long = length-set ws place _ ∙ i.long;
      idle = All-set (λ w. IsIdle s w) ws place _ ((was.0.0, was.0.1, was.0.2, was.0.3, was.0.4, known), was.1) i.idle;
      taken = one_replaced (λ w. taken_of w) ws place _ w inside refl ∙ i.taken;
    }
