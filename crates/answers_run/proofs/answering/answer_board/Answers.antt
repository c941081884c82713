use Rattle.std.proofs.Common.{ap, ◌∙◌}
use Rattle.fs_model.specs.Case.{CaseData}
use Rattle.answer_pages.specs.Text.{answers_text}
use Rattle.phases.specs.declared.status.Status.TheVariants as status
use Rattle.answers_run.proofs.Stories.{done_answers, failed_answers, said_so_answers, short_answers}
use Rattle.answers_run.proofs.answering.answer_board.Goals as goal

pub returns-in-Ok : goal.returns-in-Ok
returns-in-Ok g c =
    let board = c.args.opened.now.board in
    let same = ap (λ (k : CaseData). answers_text k board c.as_slice.result.now) c.case.ensures ∙ ap (answers_text c.args.opened.now.baseline.case board) c.as_slice.ensures.value in
    record {
      ends = tt;
      output = said_so_answers g.O.Sink.tells g.O.Sink.taken g.O.Sink.faults _ _ c.args.out.now c.write_answers.new.out status.Done same
          (done_answers g.O.Sink.tells g.O.Sink.taken g.O.Sink.faults _ c.args.out.now c.write_answers.new.out c.in-Ok.ensures.bytes c.in-Ok.ensures.cause);
    }

pub returns-in-Err-Failed : goal.returns-in-Err-Failed
returns-in-Err-Failed g c =
    let board = c.args.opened.now.board in
    let same = ap (λ (k : CaseData). answers_text k board c.as_slice.result.now) c.case.ensures ∙ ap (answers_text c.args.opened.now.baseline.case board) c.as_slice.ensures.value in
    record {
      ends = tt;
      output = said_so_answers g.O.Sink.tells g.O.Sink.taken g.O.Sink.faults _ _ c.args.out.now c.write_answers.new.out status.WriteFault same
          (failed_answers g.O.Sink.tells g.O.Sink.taken g.O.Sink.faults _ c.args.out.now c.write_answers.new.out c.in-Err-Failed.ensures.bytes (rw c.in-Err-Failed.field-0-is at c.in-Err-Failed.ensures.cause));
    }

pub returns-in-Err-NoMemory : goal.returns-in-Err-NoMemory
returns-in-Err-NoMemory g c =
    let board = c.args.opened.now.board in
    let same = ap (λ (k : CaseData). answers_text k board c.as_slice.result.now) c.case.ensures ∙ ap (answers_text c.args.opened.now.baseline.case board) c.as_slice.ensures.value in
    record {
      ends = tt;
      output = said_so_answers g.O.Sink.tells g.O.Sink.taken g.O.Sink.faults _ _ c.args.out.now c.write_answers.new.out status.NoMemory same
          (short_answers g.O.Sink.tells g.O.Sink.taken g.O.Sink.faults _ c.args.out.now c.write_answers.new.out c.in-Err-NoMemory.ensures.bytes (rw c.in-Err-NoMemory.field-0-is at c.in-Err-NoMemory.ensures.cause));
    }
