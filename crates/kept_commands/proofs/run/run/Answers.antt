use Rattle.std.proofs.Common.{refl}
use Rattle.fs_outside.specs.Past.{content}
use Rattle.phases.proofs.Causes.{no_baseline_keeps, no_baseline_silent}
use Rattle.phases.specs.Failures.{status_for}
use Rattle.phases.proofs.Left.{left_by}
use Rattle.phases.proofs.Outputs.{silent_story}
use Rattle.command_line.specs.Request.{campaign_of}
use Rattle.kept_commands.specs.Crash.{AsAtEntry}
use Rattle.kept_commands.specs.Run.{run_portion}
use Rattle.kept_commands.proofs.Crashes.{no_baseline_end, nothing}
use Rattle.kept_commands.proofs.FileEnds.{no_baseline_cause}
use Rattle.kept_commands.proofs.run.run.Goals as goal

pub returns : goal.returns
returns g c =
    let ran = c.run_jobs-answer.ensures in
    rw (← c.in_ok-baseline.ensures.same) (record { cause = ran.cause; output = ran.output; keeps = ran.keeps; story = ran.story })

pub returns-in_err-baseline : goal.returns-in_err-baseline
returns-in_err-baseline g c =
    let answer = status_for c.in_err-baseline.field-0.0 in
    let why = c.in_err-baseline.ensures.refused in
    let past = g.D.Disk.past c.args.disk.now in
    let keeps = no_baseline_keeps c.args.case.now answer why in
    rw (left_by c.from_residual.result c.in_err-baseline.field-0.0 c.from_residual.ensures.1)
    (record {
      cause = no_baseline_cause g.D.Disk.tells c.args.campaign.now.fresh (run_portion (campaign_of c.args.campaign.now)) (content past) c.args.case.now answer why;
      output = silent_story _ g.O.Sink.taken g.O.Sink.faults _ c.args.out.now answer (no_baseline_silent c.args.case.now answer why);
      keeps = rw keeps refl;
      story = λ told. nothing _ _ _ _ _ _ past past answer refl (λ sure image was. AsAtEntry was) (λ _. no_baseline_end _ _ c.args.case.now past answer refl why);
    })
