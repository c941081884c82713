use Rattle.std.proofs.Common.{rules, ◌≡◌, ap, inl, refl, subst, ◌∙◌}
use Rattle.fs_outside.specs.Past.{content}
use Rattle.fs_model.specs.Case.{CaseData}
use Rattle.fs_model.specs.Run.{cycles}
use Rattle.command_line.specs.Window.{window_data}
use Rattle.phases.specs.Failures.{status_of}
use Rattle.phases.specs.declared.status.Status.TheVariants as status
use Rattle.phases.proofs.Reported.{halts}
use Rattle.window_parts.specs.Parts.{HasNoPart, IsPartWindow}
use Rattle.window_run.proofs.PartEndings.{empty_output, of_window, part_output, part_story, silent_output, untouched_story}
use Rattle.window_run.proofs.part.run_window.Goals as goal

pub run_jobs-answer-requires-clause-cycles : goal.run_jobs-answer-requires-clause-cycles
run_jobs-answer-requires-clause-cycles g c = λ κs lives. c.in-Ok.ensures.window.cycles_are ∙ ap cycles c.case.ensures

pub returns-in-Ok : goal.returns-in-Ok
returns-in-Ok g c =
    let line = window_data c.args.line.now in
    let symbols = c.args.symbols.now in
    let base = c.args.baseline.now in
    let window = c.in-Ok.window in
    let answer = status_of c.run_jobs-answer.result in
    let ran = c.run_jobs-answer.ensures in
    let part = subst (λ (x : CaseData). IsPartWindow line.part symbols x window) c.case.ensures c.in-Ok.ensures.window in
    rw c.of.ensures (record {
      cause = of_window line symbols base.case g.D.Disk.tells (content (g.D.Disk.past c.args.disk.now)) window answer (halts base.case base.golden c.facts.ensures.runs) part ran.cause;
      output = part_output line symbols base.case g.D.Disk.tells g.O.Sink.tells g.O.Sink.taken g.O.Sink.faults (content (g.D.Disk.past c.args.disk.now)) window c.args.out.now c.run_jobs-answer.new.out answer part ran.output;
      keeps = ran.keeps;
      story = λ told. part_story line symbols base.case window (g.D.Disk.past c.args.disk.now) (g.D.Disk.past c.run_jobs-answer.new.disk) answer part (ran.story told);
    })

pub returns-in-Err-Nothing : goal.returns-in-Err-Nothing
returns-in-Err-Nothing g c =
    let line = window_data c.args.line.now in
    let symbols = c.args.symbols.now in
    let base = c.args.baseline.now in
    let none : HasNoPart line.part symbols c.case.result.now c.in-Err-Nothing.why = let refused = c.in-Err-Nothing.ensures.refused in search rules in
    rw c.in-Err-Nothing.field-0-is (record {
      cause = (halts base.case base.golden c.facts.ensures.runs, subst (λ (x : CaseData). HasNoPart line.part symbols x c.in-Err-Nothing.why) c.case.ensures none);
      output = empty_output line symbols base.case g.D.Disk.tells g.O.Sink.tells g.O.Sink.taken g.O.Sink.faults (content (g.D.Disk.past c.args.disk.now)) c.args.out.now c.in-Err-Nothing.why;
      keeps = refl;
      story = λ told. refl;
    })

pub returns-in-Err-NoMemory : goal.returns-in-Err-NoMemory
returns-in-Err-NoMemory g c =
    let line = window_data c.args.line.now in
    let symbols = c.args.symbols.now in
    let base = c.args.baseline.now in
    record {
      cause = tt;
      output = silent_output line symbols base.case g.D.Disk.tells g.O.Sink.tells g.O.Sink.taken g.O.Sink.faults (content (g.D.Disk.past c.args.disk.now)) c.args.out.now status.NoMemory tt;
      keeps = refl;
      story = λ told. untouched_story line symbols base.case (g.D.Disk.past c.args.disk.now) status.NoMemory (inl refl);
    }
