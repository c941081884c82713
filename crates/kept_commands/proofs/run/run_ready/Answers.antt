use Rattle.std.proofs.Common.{length, ◌∙◌, ap, subst, refl}
use Rattle.fs_model.specs.Job.{jobs_in}
use Rattle.fs_model.specs.Filling.{board_filled}
use Rattle.fs_model.specs.Outcome.{outcome, total_at}
use Rattle.golden_trace.specs.Goldens.{GoldenData}
use Rattle.phases.specs.Reports.{report_in}
use Rattle.phases.specs.Failures.{status_of}
use Rattle.phases.proofs.Outputs.{said_so, silent_story, writing_keeps}
use Rattle.phases.proofs.Reported.{board_is}
use Rattle.campaign.specs.CarriedOut.{IsCarriedOutAs}
use Rattle.campaign.specs.Perform.{batches_due}
use Rattle.campaign.specs.Ready.{ReadyData, portion_of}
use Rattle.campaign.specs.declared.performing.Performed.TheVariants.{Done, Stopped, KeepFault}
use Rattle.kept_commands.specs.Run.{Portion}
use Rattle.kept_commands.proofs.Crashes.{broken_pages, pages_done, pages_stopped, pages_story}
use Rattle.kept_commands.proofs.FileEnds.{done_ends, ends_writes}
use Rattle.kept_commands.proofs.Trusted.{run_totals}
use Rattle.kept_commands.proofs.run.run_ready.Goals as goal

pub returns-in-Done : goal.returns-in-Done
returns-in-Done g c =
    let ran = subst (λ (r : ReadyData). IsCarriedOutAs r.shortcuts g.D.Disk.tells r c.perform.new.ready (g.D.Disk.past c.args.disk.now) (g.D.Disk.past c.perform.new.disk) (g.D.Disk.faults c.args.disk.now) (g.D.Disk.faults c.perform.new.disk) (Done c.in-Done.totals)) c.give_shortcuts.ensures c.in-Done.ensures in
    let base = c.args.baseline.now in
    let keeper = c.args.ready.now.keeper in
    let portion : Portion = record { budget = c.args.ready.now.budget; jobs = portion_of c.args.ready.now } in
    let wrote = c.report_totals.ensures in
    let totals = run_totals base.case keeper.case c.in-Done.totals keeper.board c.requires.case ran.totals in
    let sites = c.sites-sites in
    let same =
    ap (λ (run : GoldenData). report_in c.args.format (length run.touches) sites.result (total_at c.in-Done.totals)) c.golden.ensures
    ∙ board_is c.args.format base.case base.golden sites.result c.in-Done.totals (board_filled (outcome base.case) (jobs_in base.case) keeper.board) c.facts.ensures.runs sites.ensures totals in
    let cause = done_ends portion keeper.board (status_of c.report_totals.result) ran.done wrote.ends in
    record {
      cause = cause;
      output = said_so g.O.Sink.tells g.O.Sink.taken g.O.Sink.faults _ _ c.args.out.now c.report_totals.new.out (status_of c.report_totals.result) same wrote.output;
      keeps = rw (writing_keeps (status_of c.report_totals.result) wrote.ends) ran.cause;
      story = λ told.
          pages_story c.args.ready.now (g.D.Disk.past c.args.disk.now) (g.D.Disk.past c.perform.new.disk) (status_of c.report_totals.result)
          (ends_writes portion keeper.board (status_of c.report_totals.result) cause) (ran.sound told) (ran.old_rows told) (ran.rows_stay told) (ran.any_moment told)
          (λ right gives. pages_done c.args.ready.now c.perform.new.ready.keeper (g.D.Disk.past c.perform.new.disk) (ran.keeper refl) (ran.kept told right gives refl) _ _ (status_of c.report_totals.result) wrote.ends ran.whole);
    }

pub returns-in-Stopped : goal.returns-in-Stopped
returns-in-Stopped g c =
    let ran = subst (λ (r : ReadyData). IsCarriedOutAs r.shortcuts g.D.Disk.tells r c.perform.new.ready (g.D.Disk.past c.args.disk.now) (g.D.Disk.past c.perform.new.disk) (g.D.Disk.faults c.args.disk.now) (g.D.Disk.faults c.perform.new.disk) (Stopped c.in-Stopped.kept c.in-Stopped.jobs)) c.give_shortcuts.ensures c.in-Stopped.ensures in
    record {
      cause = ran.stopped;
      output = silent_story g.O.Sink.tells g.O.Sink.taken g.O.Sink.faults _ c.args.out.now _ tt;
      keeps = ran.cause;
      story = λ told.
          pages_story c.args.ready.now (g.D.Disk.past c.args.disk.now) (g.D.Disk.past c.perform.new.disk) _ (λ l. l) (ran.sound told) (ran.old_rows told) (ran.rows_stay told) (ran.any_moment told)
          (λ right gives. pages_stopped c.args.ready.now c.perform.new.ready.keeper (g.D.Disk.past c.perform.new.disk) (ran.keeper refl) (ran.kept told right gives refl) ⊥ ⊥ c.in-Stopped.kept c.in-Stopped.jobs ran.counted);
    }

pub returns-in-KeepFault : goal.returns-in-KeepFault
returns-in-KeepFault g c =
    let ran = subst (λ (r : ReadyData). IsCarriedOutAs r.shortcuts g.D.Disk.tells r c.perform.new.ready (g.D.Disk.past c.args.disk.now) (g.D.Disk.past c.perform.new.disk) (g.D.Disk.faults c.args.disk.now) (g.D.Disk.faults c.perform.new.disk) KeepFault) c.give_shortcuts.ensures c.in-KeepFault.ensures in
    let keeper = c.args.ready.now.keeper in
    record {
      cause = tt;
      output = silent_story g.O.Sink.tells g.O.Sink.taken g.O.Sink.faults _ c.args.out.now _ tt;
      keeps = ran.cause;
      story = λ told. pages_story c.args.ready.now (g.D.Disk.past c.args.disk.now) (g.D.Disk.past c.perform.new.disk) _ (λ l. l) (ran.sound told) (ran.old_rows told) (ran.rows_stay told) (ran.any_moment told)
          (λ right gives. broken_pages g.D.Disk.tells (g.D.Disk.past c.args.disk.now) (g.D.Disk.past c.perform.new.disk) keeper c.perform.new.ready.keeper (batches_due c.args.ready.now) told (ran.broken refl));
    }
