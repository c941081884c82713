use Rattle.std.proofs.Common.{length, ◌∙◌, Ok, Err, ap, refl}
use Rattle.golden_trace.specs.Goldens.{GoldenData}
use Rattle.command_line.specs.declared.commands.Command.TheVariants as command
use Rattle.phases.specs.Failures.{of_report, status_for}
use Rattle.phases.proofs.Causes.{no_baseline_cause, no_baseline_silent, writing_cause}
use Rattle.phases.proofs.Left.{left_by, report_writes}
use Rattle.phases.proofs.Outputs.{said_so, silent_story, written_story}
use Rattle.phases.proofs.Reported.{halts}
use Rattle.plain_commands.proofs.Planned.{plan_is}
use Rattle.plain_commands.proofs.plan.plan.Goals as goal

pub returns-in_err-baseline : goal.returns-in_err-baseline
returns-in_err-baseline g c =
    let answer = status_for c.in_err-baseline.field-0.0 in
    let why = c.in_err-baseline.ensures.refused in
    rw (left_by c.from_residual.result c.in_err-baseline.field-0.0 c.from_residual.ensures.1)
    (record {
      cause = no_baseline_cause command.Plan c.args.case.now answer refl why;
      output = silent_story _ g.O.Sink.taken g.O.Sink.faults _ c.args.out.now answer (no_baseline_silent c.args.case.now answer why);
    })

pub returns-in_err-write_plan_in : goal.returns-in_err-write_plan_in
returns-in_err-write_plan_in g c =
    let b = c.in_ok-baseline.baseline in
    let list = c.list.result.now in
    let part = c.in_err-write_plan_in.ensures in
    let refusal = c.in_err-write_plan_in.field-0.0 in
    let answer = status_for (of_report refusal) in
    let is =
    plan_is c.args.format b.case b.golden c.count.result c.sites.result list c.facts.ensures.runs (c.count.ensures.value ∙ ap (λ (run : GoldenData). length run.touches) c.golden.ensures)
    (c.list.ensures ∙ c.facts.ensures.jobs) c.sites.ensures in
    rw (left_by c.from_residual-in_err-write_plan_in.result (of_report refusal) c.from_residual-in_err-write_plan_in.ensures.1, ← c.in_ok-baseline.ensures.same)
    (record {
      cause = writing_cause command.Plan b.case answer (report_writes refusal) (halts b.case b.golden c.facts.ensures.runs);
      output = said_so g.O.Sink.tells g.O.Sink.taken g.O.Sink.faults _ _ c.args.out.now c.write_plan_in.new.out answer is
          (written_story g.O.Sink.tells g.O.Sink.taken g.O.Sink.faults _ c.args.out.now c.write_plan_in.new.out (Err refusal) part.bytes part.cause part.nothing);
    })

pub returns : goal.returns
returns g c =
    let b = c.in_ok-baseline.baseline in
    let list = c.list.result.now in
    let part = c.in_ok-write_plan_in.ensures in
    let is =
    plan_is c.args.format b.case b.golden c.count.result c.sites.result list c.facts.ensures.runs (c.count.ensures.value ∙ ap (λ (run : GoldenData). length run.touches) c.golden.ensures)
    (c.list.ensures ∙ c.facts.ensures.jobs) c.sites.ensures in
    rw (← c.in_ok-baseline.ensures.same)
    (record {
      cause = λ needs. halts b.case b.golden c.facts.ensures.runs;
      output = said_so g.O.Sink.tells g.O.Sink.taken g.O.Sink.faults _ _ c.args.out.now c.write_plan_in.new.out _ is
          (written_story g.O.Sink.tells g.O.Sink.taken g.O.Sink.faults _ c.args.out.now c.write_plan_in.new.out (Ok c.in_ok-write_plan_in.field-0) part.bytes part.cause part.nothing);
    })
