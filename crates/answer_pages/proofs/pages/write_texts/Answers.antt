use Rattle.std.proofs.Common.{ℕ, List, ap, subst, ◌∙◌, arith}
use Rattle.fs_outside.specs.Writing.{TookPart}
use Rattle.fs_outside.proofs.Writes.{each_fails}
use Rattle.answer_pages.specs.declared.worker.Worker.{Worker}
use Rattle.answer_pages.proofs.pages.write_texts.Goals as goal

pub returns-in_err-write_whole-clause-bytes : goal.returns-in_err-write_whole-clause-bytes
returns-in_err-write_whole-clause-bytes g c =
    let text = c.deref.ensures.value ∙ ap (λ (w : Worker). w.text.items) c.worker-item.is in
    each_fails (λ (w : Worker). w.text.items) g.O.Sink.tells _ _ _ c.args.workers.now c.loop-worker.worker-index c.worker-item.result _
    c.from_residual.ensures.0 (omega arith) c.loop-worker.invariant.so_far
    (λ told. subst (λ (x : List ℕ). TookPart (g.O.Sink.taken c.loop-worker.out) (g.O.Sink.taken c.write_whole.new.out) x) text (c.in_err-write_whole.ensures.bytes told))
