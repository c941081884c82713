use Rattle.std.proofs.Common.{List, length, ap, refl, sym, subst, ◌∙◌}
use Rattle.fs_model.specs.declared.sites.Job.{Job}
use Rattle.fs_model.specs.AccessLog.{log}
use Rattle.fs_model.specs.Case.{CaseData}
use Rattle.fs_model.specs.Job.{jobs_of}
use Rattle.fs_model.specs.Run.{cycles}
use Rattle.fs_model.proofs.Tables.{list_of}
use Rattle.golden_trace.specs.Goldens.{GoldenData}
use Rattle.phases.specs.Failures.{status_of}
use Rattle.phases.proofs.Outputs.{said_so, silent_story}
use Rattle.window_counts.specs.Windows.{HasDueBelow, IsDueAt, window_sites}
use Rattle.window_run.proofs.Clipped.{counted_text, table_totals}
use Rattle.window_run.proofs.Stories.{counted_writes}
use Rattle.window_run.proofs.jobs.report_window.Goals as goal

pub counts_in-requires-clause-list : goal.counts_in-requires-clause-list
counts_in-requires-clause-list g c = c.list.ensures ∙ c.facts.ensures.jobs ∙ ap (λ (x : CaseData). jobs_of (log x)) (sym c.case.ensures)

pub returns-in-Ok : goal.returns-in-Ok
returns-in-Ok g c =
    let base = c.args.baseline.now in
    let window = c.args.window.now in
    let board = c.args.board.now in
    let counted = c.in-Ok.ensures in
    let wrote = c.report_counts.ensures in
    let answer = status_of c.report_counts.result in
    let table_is = c.list.ensures ∙ c.facts.ensures.jobs in
    let each = subst (λ (l : List Job). HasDueBelow window l board (length l)) (list_of base.case c.list.result.now table_is) counted.whole in
    let totals = table_totals c.case.result.now base.case c.list.result.now c.in-Ok.totals window board c.case.ensures table_is counted.sums in
    let n_is = c.count.ensures.value ∙ ap (λ (run : GoldenData). length run.touches) c.golden.ensures in
    let sites_are = c.sites_in.ensures ∙ ap (λ (x : CaseData). length (window_sites x window)) c.case-in-Ok.ensures in
    record {
      ends = counted_writes window base.case board answer each wrote.ends;
      output = said_so g.O.Sink.tells g.O.Sink.taken g.O.Sink.faults _ _ c.args.out.now c.report_counts.new.out answer
          (counted_text c.args.format base.case base.golden window board c.count.result c.len.result c.sites_in.result c.in-Ok.totals c.facts.ensures.runs n_is c.len.ensures sites_are totals)
          wrote.output;
    }

pub returns-in-Err : goal.returns-in-Err
returns-in-Err g c =
    let base = c.args.baseline.now in
    let window = c.args.window.now in
    let missing = c.in-Err.ensures in
    let first = c.in-Err.field-0.first in
    let table_is = c.list.ensures ∙ c.facts.ensures.jobs in
    rw c.stopped.ensures (record {
      ends = record {
        first = first;
        is_due = subst (λ (l : List Job). IsDueAt window l first) (list_of base.case c.list.result.now table_is) missing.due;
        blank = missing.unfinished;
        kept_is = refl;
        jobs_is = refl;
      };
      output = silent_story g.O.Sink.tells g.O.Sink.taken g.O.Sink.faults _ c.args.out.now _ tt;
    })
