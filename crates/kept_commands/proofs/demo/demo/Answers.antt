use Rattle.std.proofs.Common.{sym, subst}
use Rattle.fs_outside.specs.Disks.{sure_past}
use Rattle.fs_outside.specs.Past.{content}
use Rattle.phases.specs.Failures.{status_of}
use Rattle.phases.specs.Output.{IsText, OutputStory}
use Rattle.phases.specs.Reports.{report_of}
use Rattle.phases.proofs.Outputs.{reworded}
use Rattle.command_line.specs.Request.{CampaignData}
use Rattle.command_line.specs.declared.commands.Format.TheVariants as format
use Rattle.command_line.specs.declared.commands.Command.TheVariants as command
use Rattle.phases.specs.Commands.{IsCaseCause}
use Rattle.kept_commands.specs.Keep.{IsKeepCause, RunSays}
use Rattle.kept_commands.specs.Run.{run_portion}
use Rattle.kept_commands.proofs.FileEnds.{memory_cause, memory_output}
use Rattle.kept_commands.proofs.Trusted.{fresh_text}
use Rattle.kept_commands.proofs.demo.demo.Goals as goal

pub returns-clause-output : goal.returns-clause-output
returns-clause-output g c =
    let answer = status_of c.run-answer.result in
    let file = content (sure_past c.new-disk.result) in
    let ran = subst (λ (d : CampaignData). OutputStory (Unit {0} × g.O.Sink.tells) g.O.Sink.taken g.O.Sink.faults (RunSays d.format d.fresh file c.args.case.now) c.args.out.now c.run-answer.new.out answer) c.whole-campaign.ensures c.run-answer.ensures.output in
    subst (OutputStory g.O.Sink.tells g.O.Sink.taken g.O.Sink.faults (IsText (report_of format.Text c.args.case.now)) c.args.out.now c.run-answer.new.out) (sym c.told_as_memory.ensures)
    (memory_output g.O.Sink.tells g.O.Sink.taken g.O.Sink.faults _ c.args.out.now c.run-answer.new.out answer
    (reworded _ g.O.Sink.tells g.O.Sink.taken g.O.Sink.faults _ (IsText (report_of format.Text c.args.case.now)) c.args.out.now c.run-answer.new.out answer
    (λ told. (tt, told)) (λ told text says. fresh_text c.args.case.now format.Text file text says) ran))

pub returns-clause-cause : goal.returns-clause-cause
returns-clause-cause g c =
    let answer = status_of c.run-answer.result in
    let file = content (sure_past c.new-disk.result) in
    subst (IsCaseCause command.Demo c.args.case.now) (sym c.told_as_memory.ensures) (memory_cause (Unit {0}) file c.args.case.now answer tt
    (subst (λ (d : CampaignData). IsKeepCause (Unit {0}) d.fresh (run_portion d) file c.args.case.now answer) c.whole-campaign.ensures c.run-answer.ensures.cause))
