use Rattle.std.proofs.Common.{Ok, Err}
use Rattle.phases.specs.Failures.{of_report}
use Rattle.phases.proofs.Left.{left_by}
use Rattle.phases.proofs.Outputs.{written_story}
use Rattle.window_run.proofs.reports.report_counts.Goals as goal

pub returns-clause-output : goal.returns-clause-output
returns-clause-output g c =
    let part = c.in_ok-write_counts.ensures in
    written_story g.O.Sink.tells g.O.Sink.taken g.O.Sink.faults _ c.args.out.now c.write_counts.new.out (Ok c.in_ok-write_counts.field-0) part.bytes part.cause part.nothing

pub returns-in_err-write_counts-clause-output : goal.returns-in_err-write_counts-clause-output
returns-in_err-write_counts-clause-output g c =
    let part = c.in_err-write_counts.ensures in
    let why = c.in_err-write_counts.field-0.0 in
    rw (left_by c.from_residual.result (of_report why) c.from_residual.ensures.1)
    (written_story g.O.Sink.tells g.O.Sink.taken g.O.Sink.faults _ c.args.out.now c.write_counts.new.out (Err why) part.bytes part.cause part.nothing)
