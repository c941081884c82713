use Rattle.std.proofs.Common.{inl, refl}
use Rattle.fs_outside.specs.Past.{content}
use Rattle.phases.proofs.Causes.{no_baseline_keeps, no_baseline_silent}
use Rattle.phases.specs.Failures.{status_for}
use Rattle.phases.proofs.Left.{left_by}
use Rattle.phases.proofs.Outputs.{silent_story}
use Rattle.kept_commands.proofs.Crashes.{no_baseline_end, nothing}
use Rattle.kept_commands.proofs.Merged.{no_baseline_merges, no_baseline_others, no_baseline_union}
use Rattle.kept_commands.proofs.merge.merge.Goals as goal

pub returns : goal.returns
returns g c =
    let ran = c.merge_jobs-answer.ensures in
    rw (← c.in_ok-baseline.ensures.same) (record { cause = ran.cause; output = ran.output; others = ran.others; keeps = ran.keeps; story = ran.story; union = ran.union })

pub returns-in_err-baseline : goal.returns-in_err-baseline
returns-in_err-baseline g c =
    let answer = status_for c.in_err-baseline.field-0.0 in
    let why = c.in_err-baseline.ensures.refused in
    let past = g.D.Disk.past c.args.disk.now in
    let others = no_baseline_others c.args.case.now answer why in
    let keeps = no_baseline_keeps c.args.case.now answer why in
    rw (left_by c.from_residual.result c.in_err-baseline.field-0.0 c.from_residual.ensures.1)
    (record {
      cause = no_baseline_merges g.D.Disk.tells g.T.Source.tells (content past) (g.T.Source.left c.args.second.now) c.args.case.now answer why;
      output = silent_story _ g.O.Sink.taken g.O.Sink.faults _ c.args.out.now answer (no_baseline_silent c.args.case.now answer why);
      others = rw others refl;
      keeps = rw keeps refl;
      story = λ told. nothing _ _ _ _ _ _ past past answer refl (λ sure image was. inl was) (λ _. no_baseline_end _ _ c.args.case.now past answer refl why);
      union = λ tells told sound each kept others kept_is others_are. no_baseline_union c.args.case.now _ past answer why;
    })
