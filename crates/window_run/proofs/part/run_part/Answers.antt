use Rattle.std.proofs.Common.{refl}
use Rattle.fs_outside.specs.Past.{content}
use Rattle.command_line.specs.Window.{window_data}
use Rattle.phases.specs.Failures.{status_for}
use Rattle.phases.proofs.Causes.{no_baseline_keeps, no_baseline_silent}
use Rattle.window_run.proofs.PartEndings.{no_baseline, no_baseline_story, silent_output}
use Rattle.window_run.proofs.part.run_part.Goals as goal

pub returns-in-Ok : goal.returns-in-Ok
returns-in-Ok g c =
    let ran = c.run_window-status.ensures in
    rw (← c.in-Ok.ensures.same) (record { cause = ran.cause; output = ran.output; keeps = ran.keeps; story = ran.story })

pub returns-in-Err : goal.returns-in-Err
returns-in-Err g c =
    let line = window_data c.args.line.now in
    let symbols = c.args.symbols.now in
    let case = c.args.case.now in
    let answer = status_for c.in-Err.failure in
    let why = c.in-Err.ensures.refused in
    let keeps = no_baseline_keeps case answer why in
    rw c.status.ensures (record {
      cause = no_baseline line symbols case g.D.Disk.tells (content (g.D.Disk.past c.args.disk.now)) answer why;
      output = silent_output line symbols case g.D.Disk.tells g.O.Sink.tells g.O.Sink.taken g.O.Sink.faults (content (g.D.Disk.past c.args.disk.now)) c.args.out.now answer (no_baseline_silent case answer why);
      keeps = rw keeps refl;
      story = λ told. no_baseline_story line symbols case (g.D.Disk.past c.args.disk.now) answer why;
    })
