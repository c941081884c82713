use Rattle.std.proofs.Common.{length, ◌∙◌, refl}
use Rattle.phases.specs.Failures.{of_golden, status_for, status_of}
use Rattle.phases.proofs.Causes.{no_baseline_cause, no_baseline_silent, writing_cause}
use Rattle.phases.proofs.Left.{golden_refused, left_by}
use Rattle.phases.proofs.Outputs.{said_so, silent_story}
use Rattle.phases.proofs.Reported.{halts, report_is}
use Rattle.command_line.specs.declared.commands.Command.TheVariants as command
use Rattle.plain_commands.proofs.brute.brute.Goals as goal

pub returns-in_err-golden : goal.returns-in_err-golden
returns-in_err-golden g c =
    let refusal = c.in_err-golden.field-0.0 in
    let why = golden_refused c.args.case.now refusal c.in_err-golden.ensures.refused in
    rw (left_by c.from_residual.result (of_golden refusal) c.from_residual.ensures.1)
    (record {
      cause = no_baseline_cause command.Brute c.args.case.now (status_for (of_golden refusal)) refl why;
      output = silent_story _ g.O.Sink.taken g.O.Sink.faults _ c.args.out.now (status_for (of_golden refusal)) (no_baseline_silent c.args.case.now (status_for (of_golden refusal)) why);
    })

pub returns-clause-cause : goal.returns-clause-cause
returns-clause-cause g c =
    writing_cause command.Brute c.args.case.now (status_of c.report_totals.result) c.report_totals.ensures.ends (halts c.args.case.now c.in_ok-golden.golden c.in_ok-golden.ensures.good)

pub returns-clause-output : goal.returns-clause-output
returns-clause-output g c =
    let run = c.in_ok-golden.golden in
    let good = c.in_ok-golden.ensures.good in
    let counted = c.in_ok-totals.ensures in
    said_so g.O.Sink.tells g.O.Sink.taken g.O.Sink.faults _ _ c.args.out.now c.report_totals.new.out (status_of c.report_totals.result)
    (report_is c.args.format c.args.case.now run (length run.touches) c.sum.result c.in_ok-totals.totals good refl counted.counts (c.sum.ensures.value ∙ counted.sum))
    c.report_totals.ensures.output
