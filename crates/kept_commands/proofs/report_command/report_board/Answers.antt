use Rattle.std.proofs.Common.{List, length, ◌∙◌, Ok, Err, ap, sym}
use Rattle.fs_model.specs.declared.sites.Job.{Job}
use Rattle.fs_model.specs.Job.{JobTable}
use Rattle.fs_model.specs.Outcome.{total_at}
use Rattle.report.specs.Text.{jobs_csv}
use Rattle.golden_trace.specs.Goldens.{GoldenData}
use Rattle.fs_model.proofs.Tables.{list_of}
use Rattle.command_line.specs.declared.commands.Format.{Format}
use Rattle.command_line.specs.declared.commands.Format.TheVariants as format
use Rattle.phases.specs.Failures.{of_report, status_of}
use Rattle.phases.specs.Reports.{kept_report, report_in}
use Rattle.phases.proofs.Left.{left_by}
use Rattle.phases.proofs.Outputs.{said_so, written_story}
use Rattle.phases.proofs.Reported.{board_is}
use Rattle.kept_commands.proofs.Trusted.{table_totals}
use Rattle.kept_commands.proofs.report_command.report_board.Goals as goal

pub returns-in_ok-write_jobs_csv-in-Csv-clause-output : goal.returns-in_ok-write_jobs_csv-in-Csv-clause-output
returns-in_ok-write_jobs_csv-in-Csv-clause-output g c =
    let b = c.args.opened.now.baseline in
    let board = c.args.opened.now.board in
    let part = c.in_ok-write_jobs_csv-in-Csv.ensures in
    said_so g.O.Sink.tells g.O.Sink.taken g.O.Sink.faults _ _ c.args.out.now c.write_jobs_csv.new.out _
    (ap (λ (t : JobTable). jobs_csv t.list board) c.list.ensures ∙ ap (λ (l : List Job). jobs_csv l board) (list_of b.case b.list c.facts.ensures.jobs)
    ∙ ap (λ (f : Format). kept_report f b.case board) (sym c.in-Csv.is))
    (written_story g.O.Sink.tells g.O.Sink.taken g.O.Sink.faults _ c.args.out.now c.write_jobs_csv.new.out (Ok c.in_ok-write_jobs_csv-in-Csv.field-0) part.bytes part.cause part.nothing)

pub returns-in_err-write_jobs_csv-in-Csv-clause-output : goal.returns-in_err-write_jobs_csv-in-Csv-clause-output
returns-in_err-write_jobs_csv-in-Csv-clause-output g c =
    let b = c.args.opened.now.baseline in
    let board = c.args.opened.now.board in
    let part = c.in_err-write_jobs_csv-in-Csv.ensures in
    let refusal = c.in_err-write_jobs_csv-in-Csv.field-0.0 in
    rw (left_by c.from_residual.result (of_report refusal) c.from_residual.ensures.1)
    (said_so g.O.Sink.tells g.O.Sink.taken g.O.Sink.faults _ _ c.args.out.now c.write_jobs_csv.new.out _
    (ap (λ (t : JobTable). jobs_csv t.list board) c.list.ensures ∙ ap (λ (l : List Job). jobs_csv l board) (list_of b.case b.list c.facts.ensures.jobs)
    ∙ ap (λ (f : Format). kept_report f b.case board) (sym c.in-Csv.is))
    (written_story g.O.Sink.tells g.O.Sink.taken g.O.Sink.faults _ c.args.out.now c.write_jobs_csv.new.out (Err refusal) part.bytes part.cause part.nothing))

pub returns-in-Text-clause-output : goal.returns-in-Text-clause-output
returns-in-Text-clause-output g c =
    let b = c.args.opened.now.baseline in
    let board = c.args.opened.now.board in
    let sites = c.sites-sites in
    let totals = table_totals b.case b.list c.args.totals.now board c.facts.ensures.jobs c.requires in
    said_so g.O.Sink.tells g.O.Sink.taken g.O.Sink.faults _ _ c.args.out.now c.report_totals.new.out (status_of c.report_totals.result)
    (ap (λ (run : GoldenData). report_in format.Text (length run.touches) sites.result (total_at c.args.totals.now)) c.golden.ensures
    ∙ board_is format.Text b.case b.golden sites.result c.args.totals.now board c.facts.ensures.runs sites.ensures totals
    ∙ ap (λ (f : Format). kept_report f b.case board) (sym c.in-Text.is))
    c.report_totals.ensures.output

pub returns-in-Json-clause-output : goal.returns-in-Json-clause-output
returns-in-Json-clause-output g c =
    let b = c.args.opened.now.baseline in
    let board = c.args.opened.now.board in
    let sites = c.sites-sites in
    let totals = table_totals b.case b.list c.args.totals.now board c.facts.ensures.jobs c.requires in
    said_so g.O.Sink.tells g.O.Sink.taken g.O.Sink.faults _ _ c.args.out.now c.report_totals-in-Json.new.out (status_of c.report_totals-in-Json.result)
    (ap (λ (run : GoldenData). report_in format.Json (length run.touches) sites.result (total_at c.args.totals.now)) c.golden-in-Json.ensures
    ∙ board_is format.Json b.case b.golden sites.result c.args.totals.now board c.facts.ensures.runs sites.ensures totals
    ∙ ap (λ (f : Format). kept_report f b.case board) (sym c.in-Json.is))
    c.report_totals-in-Json.ensures.output
