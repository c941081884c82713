use Rattle.std.proofs.Common.{◌≡◌, ℕ, List, ◌++◌, ◌≤◌, ap, sym, subst, ◌∙◌, length, append-nil, arith}
use Rattle.fs_model.specs.Case.{CaseData}
use Rattle.fs_outside.specs.Writing.{TookPart}
use Rattle.fs_outside.proofs.Writes.{part_after, part_before, writes_part}
use Rattle.answer_pages.specs.Ready.{text_asked, lines_asked_behind}
use Rattle.answer_pages.specs.Workers.{shares_text}
use Rattle.answer_pages.proofs.Rows.{text_end}
use Rattle.answer_pages.proofs.pages.write_pages.Goals as goal

pub returns-in_err-write_page-clause-bytes : goal.returns-in_err-write_page-clause-bytes
returns-in_err-write_page-clause-bytes g c = λ told.
    let a = c.args.answers.now in
    let so_far = c.loop-next.invariant.so_far told in
    let page = shares_text a.case.now c.deal.new.workers in
    let text : so_far.0 ++ (page ++ lines_asked_behind a c.in-Ok.behind) ≡ text_asked a =
    ap (λ (x : List ℕ). so_far.0 ++ x) (sym c.in-Ok.ensures.text) ∙ sym so_far.1 in
    let part : TookPart (g.O.Sink.taken c.loop-next.out) (g.O.Sink.taken c.write_page.new.out) page =
    subst (λ (x : CaseData). TookPart (g.O.Sink.taken c.loop-next.out) (g.O.Sink.taken c.write_page.new.out) (shares_text x c.deal.new.workers)) c.requires.reference (c.in_err-write_page.ensures.bytes told) in
    writes_part _ _ _ c.from_residual.result c.from_residual.ensures.0
    (subst (λ (x : List ℕ). TookPart (g.O.Sink.taken c.args.out.now) (g.O.Sink.taken c.write_page.new.out) x) text
    (part_after (g.O.Sink.taken c.args.out.now) (g.O.Sink.taken c.loop-next.out) (g.O.Sink.taken c.write_page.new.out) so_far.0 (page ++ lines_asked_behind a c.in-Ok.behind) so_far.2
    (part_before (g.O.Sink.taken c.loop-next.out) (g.O.Sink.taken c.write_page.new.out) page (lines_asked_behind a c.in-Ok.behind) part)))

pub returns-clause-bytes : goal.returns-clause-bytes
returns-clause-bytes g c = λ told.
    let a = c.args.answers.now in
    let so_far = c.loop-next.invariant.so_far told in
    let over : length a.board.now ≤ c.loop-next.next = omega (arith, c.loop-next-test.false, c.len-end.ensures) in
    let whole : so_far.0 ≡ text_asked a =
    sym (append-nil so_far.0) ∙ ap (λ (x : List ℕ). so_far.0 ++ x) (sym (text_end a.case.now a.board.now a.chosen.now c.loop-next.next over)) ∙ sym so_far.1 in
    so_far.2 ∙ ap (λ (x : List ℕ). g.O.Sink.taken c.args.out.now ++ x) whole
