use Rattle.std.proofs.Common.{ℕ, Ok, Err, ap}
use Rattle.fs_model.specs.Outcome.{total_at}
use Rattle.phases.specs.Failures.{of_report}
use Rattle.phases.specs.Reports.{report_in}
use Rattle.phases.proofs.Left.{left_by}
use Rattle.phases.proofs.Outputs.{said_so, written_story}
use Rattle.phases.proofs.reports.report_totals.Goals as goal

pub returns-clause-output : goal.returns-clause-output
returns-clause-output g c =
    let part = c.in_ok-write_report.ensures in
    said_so g.O.Sink.tells g.O.Sink.taken g.O.Sink.faults _ _ c.args.out.now c.write_report.new.out _
    (ap (λ (n : ℕ). report_in c.args.format n c.args.sites (total_at c.args.totals.now)) c.count.ensures.value)
    (written_story g.O.Sink.tells g.O.Sink.taken g.O.Sink.faults _ c.args.out.now c.write_report.new.out (Ok c.in_ok-write_report.field-0) part.bytes part.cause part.nothing)

pub returns-in_err-write_report-clause-output : goal.returns-in_err-write_report-clause-output
returns-in_err-write_report-clause-output g c =
    let part = c.in_err-write_report.ensures in
    let why = c.in_err-write_report.field-0.0 in
    rw (left_by c.from_residual.result (of_report why) c.from_residual.ensures.1)
    (said_so g.O.Sink.tells g.O.Sink.taken g.O.Sink.faults _ _ c.args.out.now c.write_report.new.out _
    (ap (λ (n : ℕ). report_in c.args.format n c.args.sites (total_at c.args.totals.now)) c.count.ensures.value)
    (written_story g.O.Sink.tells g.O.Sink.taken g.O.Sink.faults _ c.args.out.now c.write_report.new.out (Err why) part.bytes part.cause part.nothing))
