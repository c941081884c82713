use Rattle.std.proofs.Common.{◌≡◌, List, length, ap, refl, sym, ◌∙◌}
use Rattle.fs_model.specs.declared.sites.Job.{Job}
use Rattle.fs_model.specs.Job.{jobs_in}
use Rattle.row_store.specs.declared.rows.ExportRow.{ExportRow}
use Rattle.fs_model.proofs.Tables.{list_of}
use Rattle.phases.specs.Failures.{status_for, status_of}
use Rattle.phases.proofs.Left.{left_by}
use Rattle.phases.proofs.Outputs.{said_so, silent_story}
use Rattle.results_db.specs.Rows.{exported_text}
use Rattle.results_db.proofs.Ends.{are_rows, fault_ends, stored_ends, stored_keeps, stored_story, unstored_ends, unstored_keeps, unstored_silent, unstored_stores, unstored_story}
use Rattle.results_db.proofs.exports.export_board.Goals as goal

pub returns-in-Ok : goal.returns-in-Ok
returns-in-Ok g c =
    let b = c.args.opened.now.baseline in
    let board = c.args.opened.now.board in
    let rows = c.in_ok-rows.rows.items in
    let made = c.in_ok-rows.ensures in
    let list = c.list.result.now in
    let is_list = c.list.ensures ∙ c.facts.ensures.jobs in
    let jobs : list.list ≡ jobs_in b.case = list_of b.case list is_list in
    let answer = status_of c.write_exported.result in
    let stored = c.write_exported.ensures.ends in
    record {
      cause = stored_ends board answer made.whole stored;
      store = stored_story (Unit {0}) g.W.RowStore.tells g.W.RowStore.rows g.W.RowStore.faults _ c.args.store.now c.replace_all.new.self answer
          (λ told here. are_rows b.case list board rows _ is_list made.rows made.each made.whole (c.in-Ok.ensures.ok here ∙ c.as_slice.ensures.value)) c.in-Ok.ensures.cause stored;
      output = said_so g.O.Sink.tells g.O.Sink.taken g.O.Sink.faults _ _ c.args.out.now c.write_exported.new.out answer
          (ap exported_text (c.len.ensures ∙ sym c.as_slice.ensures.len ∙ ap (λ (l : List ExportRow). length l) c.as_slice.ensures.value ∙ made.each ∙ ap (λ (l : List Job). length l) jobs)) c.write_exported.ensures.output;
      keeps = stored_keeps answer stored;
    }

pub returns-in-Err-Failed-clause-cause : goal.returns-in-Err-Failed-clause-cause
returns-in-Err-Failed-clause-cause g c = fault_ends c.args.opened.now.board c.in_ok-rows.ensures.whole

pub returns-in_err-rows : goal.returns-in_err-rows
returns-in_err-rows g c =
    let board = c.args.opened.now.board in
    let answer = status_for c.in_err-rows.field-0.0 in
    let why = c.in_err-rows.ensures.refused in
    rw (left_by c.from_residual.result c.in_err-rows.field-0.0 c.from_residual.ensures.1)
    (record {
      cause = unstored_ends board answer why;
      store = unstored_story _ _ g.W.RowStore.rows g.W.RowStore.faults _ c.args.store.now c.args.store.now answer (unstored_silent board answer why) (λ told. refl) (rw (unstored_stores board answer why) refl);
      output = silent_story _ g.O.Sink.taken g.O.Sink.faults _ c.args.out.now answer (unstored_silent board answer why);
      keeps = unstored_keeps board answer why;
    })
