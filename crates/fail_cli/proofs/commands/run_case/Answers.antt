use Rattle.std.proofs.Common.{false, refl}
use Rattle.fs_outside.specs.Past.{content}
use Rattle.command_line.specs.declared.commands.Command.TheVariants as command
use Rattle.command_line.specs.Said.{case_of}
use Rattle.command_line.specs.Request.{campaign_of, draws_of, merging_of, program_of}
use Rattle.command_line.specs.Request as request
use Rattle.phases.specs.Failures.{status_of}
use Rattle.phases.proofs.Causes.{case_keeps}
use Rattle.phases.proofs.Outputs.{reworded}
use Rattle.kept_commands.specs.Run.{each_job, no_job, run_portion}
use Rattle.fail_cli.proofs.Crashes.{merge_work, other_work, run_work}
use Rattle.fail_cli.proofs.Endings.{case_others, keep_others}
use Rattle.fail_cli.proofs.commands.run_case.Goals as goal

pub returns-in-Run : goal.returns-in-Run
returns-in-Run g c =
    let ran = c.run.ensures in
    let file = content (g.D.Disk.past c.args.disk.now) in
    let case = c.args.case.now in
    rw c.in-Run.is (record {
      cause = ran.cause;
      output = reworded _ _ g.O.Sink.taken g.O.Sink.faults _ _ c.args.out.now c.run.new.out (status_of c.run.result) (λ told. (told.0 refl, told.1.1)) (λ told text says. says) ran.output;
      keeps = ran.keeps;
      others = rw (keep_others g.D.Disk.tells c.in-Run.campaign.fresh (run_portion (campaign_of c.in-Run.campaign)) file case (status_of c.run.result) ran.cause) refl;
      disk = λ named. absurd (cc);
      second = λ none. refl;
      union = λ told other names. absurd (cc);
      story = λ told. run_work g.T.Source.tells (case_of c.in-Run.field-0) (campaign_of c.in-Run.campaign) (g.T.Source.left c.args.second.now) case (g.D.Disk.past c.args.disk.now) (g.D.Disk.past c.run.new.disk) (status_of c.run.result) (ran.story told);
    })

pub returns-in-Report : goal.returns-in-Report
returns-in-Report g c =
    let ran = c.report.ensures in
    let file = content (g.D.Disk.past c.args.disk.now) in
    let case = c.args.case.now in
    rw c.in-Report.is (record {
      cause = ran.cause;
      output = reworded _ _ g.O.Sink.taken g.O.Sink.faults _ _ c.args.out.now c.report.new.out (status_of c.report.result) (λ told. (told.0 refl, told.1.1)) (λ told text says. says) ran.output;
      keeps = ran.keeps;
      others = rw (keep_others g.D.Disk.tells false no_job file case (status_of c.report.result) ran.cause) refl;
      disk = λ named. absurd (cc);
      second = λ none. refl;
      union = λ told other names. absurd (cc);
      story = λ told. other_work g.T.Source.tells (request.Report (case_of c.in-Report.field-0) c.in-Report.format) (g.T.Source.left c.args.second.now) case (g.D.Disk.past c.args.disk.now) (g.D.Disk.past c.report.new.disk) (status_of c.report.result) (ran.read told) refl;
    })

pub returns-in-Audit : goal.returns-in-Audit
returns-in-Audit g c =
    let ran = c.audit.ensures in
    let file = content (g.D.Disk.past c.args.disk.now) in
    let case = c.args.case.now in
    rw c.in-Audit.is (record {
      cause = ran.cause;
      output = reworded _ _ g.O.Sink.taken g.O.Sink.faults _ _ c.args.out.now c.audit.new.out (status_of c.audit.result) (λ told. (told.0 refl, told.1.1)) (λ told text says. says) ran.output;
      keeps = ran.keeps;
      others = rw (keep_others g.D.Disk.tells false each_job file case (status_of c.audit.result) ran.cause) refl;
      disk = λ named. absurd (cc);
      second = λ none. refl;
      union = λ told other names. absurd (cc);
      story = λ told. other_work g.T.Source.tells (request.Audit (case_of c.in-Audit.field-0)) (g.T.Source.left c.args.second.now) case (g.D.Disk.past c.args.disk.now) (g.D.Disk.past c.audit.new.disk) (status_of c.audit.result) (ran.read told) refl;
    })

pub returns-in-Symbols : goal.returns-in-Symbols
returns-in-Symbols g c =
    let ran = c.symbols.ensures in
    let file = content (g.D.Disk.past c.args.disk.now) in
    let case = c.args.case.now in
    rw c.in-Symbols.is (record {
      cause = ran.cause;
      output = reworded _ _ g.O.Sink.taken g.O.Sink.faults _ _ c.args.out.now c.symbols.new.out (status_of c.symbols.result) (λ told. (told.0 refl, told.1.1)) (λ told text says. says) ran.output;
      keeps = ran.keeps;
      others = rw (keep_others g.D.Disk.tells false no_job file case (status_of c.symbols.result) ran.cause) refl;
      disk = λ named. absurd (cc);
      second = λ none. refl;
      union = λ told other names. absurd (cc);
      story = λ told. other_work g.T.Source.tells (request.Symbols (case_of c.in-Symbols.field-0)) (g.T.Source.left c.args.second.now) case (g.D.Disk.past c.args.disk.now) (g.D.Disk.past c.symbols.new.disk) (status_of c.symbols.result) (ran.read told) refl;
    })

pub returns-in-Merge : goal.returns-in-Merge
returns-in-Merge g c =
    let ran = c.merge.ensures in
    rw c.in-Merge.is (record {
      cause = ran.cause;
      output = reworded _ _ g.O.Sink.taken g.O.Sink.faults _ _ c.args.out.now c.merge.new.out (status_of c.merge.result) (λ told. (told.0 refl, (told.1.0 refl, told.1.1))) (λ told text says. says) ran.output;
      keeps = ran.keeps;
      others = ran.others;
      disk = λ named. absurd (cc);
      second = λ none. absurd (cc);
      union = λ told other names. ran.union told other;
      story = λ told. merge_work g.T.Source.tells (case_of c.in-Merge.field-0) (merging_of c.in-Merge.merging) (g.T.Source.left c.args.second.now) c.args.case.now (g.D.Disk.past c.args.disk.now) (g.D.Disk.past c.merge.new.disk) (status_of c.merge.result) (ran.story told);
    })

pub returns-in-Brute : goal.returns-in-Brute
returns-in-Brute g c =
    let ran = c.brute.ensures in
    let case = c.args.case.now in
    rw c.in-Brute.is (record {
      cause = ran.cause;
      output = reworded _ _ g.O.Sink.taken g.O.Sink.faults _ _ c.args.out.now c.brute.new.out (status_of c.brute.result) (λ told. told.1.1) (λ told text says. says) ran.output;
      keeps = rw (case_keeps command.Brute case (status_of c.brute.result) ran.cause) refl;
      others = rw (case_others command.Brute case (status_of c.brute.result) ran.cause) refl;
      disk = λ named. refl;
      second = λ none. refl;
      union = λ told other names. absurd (cc);
      story = λ told. other_work g.T.Source.tells (request.Brute (case_of c.in-Brute.field-0) c.in-Brute.format) (g.T.Source.left c.args.second.now) case (g.D.Disk.past c.args.disk.now) (g.D.Disk.past c.args.disk.now) (status_of c.brute.result) refl refl;
    })

pub returns-in-Trace : goal.returns-in-Trace
returns-in-Trace g c =
    let ran = c.trace.ensures in
    let case = c.args.case.now in
    rw c.in-Trace.is (record {
      cause = ran.cause;
      output = reworded _ _ g.O.Sink.taken g.O.Sink.faults _ _ c.args.out.now c.trace.new.out (status_of c.trace.result) (λ told. told.1.1) (λ told text says. says) ran.output;
      keeps = rw (case_keeps command.Trace case (status_of c.trace.result) ran.cause) refl;
      others = rw (case_others command.Trace case (status_of c.trace.result) ran.cause) refl;
      disk = λ named. refl;
      second = λ none. refl;
      union = λ told other names. absurd (cc);
      story = λ told. other_work g.T.Source.tells (request.Trace (case_of c.in-Trace.field-0)) (g.T.Source.left c.args.second.now) case (g.D.Disk.past c.args.disk.now) (g.D.Disk.past c.args.disk.now) (status_of c.trace.result) refl refl;
    })

pub returns-in-Plan : goal.returns-in-Plan
returns-in-Plan g c =
    let ran = c.plan.ensures in
    let case = c.args.case.now in
    rw c.in-Plan.is (record {
      cause = ran.cause;
      output = reworded _ _ g.O.Sink.taken g.O.Sink.faults _ _ c.args.out.now c.plan.new.out (status_of c.plan.result) (λ told. told.1.1) (λ told text says. says) ran.output;
      keeps = rw (case_keeps command.Plan case (status_of c.plan.result) ran.cause) refl;
      others = rw (case_others command.Plan case (status_of c.plan.result) ran.cause) refl;
      disk = λ named. refl;
      second = λ none. refl;
      union = λ told other names. absurd (cc);
      story = λ told. other_work g.T.Source.tells (request.Plan (case_of c.in-Plan.field-0) c.in-Plan.format) (g.T.Source.left c.args.second.now) case (g.D.Disk.past c.args.disk.now) (g.D.Disk.past c.args.disk.now) (status_of c.plan.result) refl refl;
    })

pub returns-in-Sample : goal.returns-in-Sample
returns-in-Sample g c =
    let ran = c.sample.ensures in
    let case = c.args.case.now in
    rw c.in-Sample.is (record {
      cause = ran.cause;
      output = reworded _ _ g.O.Sink.taken g.O.Sink.faults _ _ c.args.out.now c.sample.new.out (status_of c.sample.result) (λ told. told.1.1) (λ told text says. says) ran.output;
      keeps = rw (case_keeps command.Sample case (status_of c.sample.result) ran.cause) refl;
      others = rw (case_others command.Sample case (status_of c.sample.result) ran.cause) refl;
      disk = λ named. refl;
      second = λ none. refl;
      union = λ told other names. absurd (cc);
      story = λ told. other_work g.T.Source.tells (request.Sample (case_of c.in-Sample.field-0) (draws_of c.in-Sample.draws)) (g.T.Source.left c.args.second.now) case (g.D.Disk.past c.args.disk.now) (g.D.Disk.past c.args.disk.now) (status_of c.sample.result) refl refl;
    })

pub returns-in-Demo : goal.returns-in-Demo
returns-in-Demo g c =
    let ran = c.demo.ensures in
    let case = c.args.case.now in
    rw c.in-Demo.is (record {
      cause = ran.cause;
      output = reworded _ _ g.O.Sink.taken g.O.Sink.faults _ _ c.args.out.now c.demo.new.out (status_of c.demo.result) (λ told. told.1.1) (λ told text says. says) ran.output;
      keeps = rw (case_keeps command.Demo case (status_of c.demo.result) ran.cause) refl;
      others = rw (case_others command.Demo case (status_of c.demo.result) ran.cause) refl;
      disk = λ named. refl;
      second = λ none. refl;
      union = λ told other names. absurd (cc);
      story = λ told. other_work g.T.Source.tells (request.Demo (case_of c.in-Demo.field-0) (program_of c.in-Demo.field-1)) (g.T.Source.left c.args.second.now) case (g.D.Disk.past c.args.disk.now) (g.D.Disk.past c.args.disk.now) (status_of c.demo.result) refl refl;
    })
