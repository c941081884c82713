use Rattle.std.proofs.Common.{ℕ, List, ◌++◌, ap, subst, ◌∙◌}
use Rattle.fs_outside.specs.Writing.{TookPart}
use Rattle.answer_pages.proofs.Texts.{texts_are}
use Rattle.answer_pages.proofs.pages.write_page.Goals as goal

pub returns-in-Ok-clause-bytes : goal.returns-in-Ok-clause-bytes
returns-in-Ok-clause-bytes g c = λ told.
    let text = texts_are c.args.reference.now c.args.workers.now c.run_shares.new.workers c.run_shares.auto.workers c.run_shares.ensures (c.is_refused.ensures c.if-is_refused.false) in
    c.in-Ok.ensures.bytes told ∙ ap (λ (x : List ℕ). g.O.Sink.taken c.args.out.now ++ x) text

pub returns-in-Err-clause-bytes : goal.returns-in-Err-clause-bytes
returns-in-Err-clause-bytes g c = λ told.
    let text = texts_are c.args.reference.now c.args.workers.now c.run_shares.new.workers c.run_shares.auto.workers c.run_shares.ensures (c.is_refused.ensures c.if-is_refused.false) in
    subst (λ (x : List ℕ). TookPart (g.O.Sink.taken c.args.out.now) (g.O.Sink.taken c.write_texts.new.out) x) text (c.in-Err.ensures.bytes told)
