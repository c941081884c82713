use Rattle.std.proofs.Common.{◌≡◌, List, Option, length, ap, sym, subst, ◌∙◌}
use Rattle.fs_model.specs.declared.outcomes.Outcome.{Outcome}
use Rattle.fs_model.specs.declared.sites.Job.{Job}
use Rattle.fs_model.specs.Case.{CaseData}
use Rattle.fs_model.specs.Job.{jobs_in}
use Rattle.fs_model.proofs.Tables.{list_of}
use Rattle.result_keeper.specs.Keep.{KeeperData}
use Rattle.campaign.specs.CarriedOut.{IsCarriedOutAs}
use Rattle.campaign.specs.Ready.{ReadyData}
use Rattle.phases.specs.Failures.{status_of}
use Rattle.phases.proofs.Outputs.{said_so, silent_story}
use Rattle.window_run.specs.Ends.{EndsByCounting}
use Rattle.window_run.specs.Says.{board_report_in}
use Rattle.window_run.proofs.Campaigns.{fault_keeps, fault_story, report_text, said_by, work_ends, work_keeps, work_story}
use Rattle.window_run.proofs.jobs.run_due.Goals as goal

pub report_window-requires-clause-long : goal.report_window-requires-clause-long
report_window-requires-clause-long g c =
    let base = c.args.baseline.now in
    let ran =
    subst (λ (r : ReadyData). IsCarriedOutAs r.shortcuts g.D.Disk.tells r c.perform-performed.new.ready (g.D.Disk.past c.args.disk.now) (g.D.Disk.past c.perform-performed.new.disk) (g.D.Disk.faults c.args.disk.now) (g.D.Disk.faults c.perform-performed.new.disk) c.perform-performed.result) c.give_shortcuts.ensures c.perform-performed.ensures in
    let kept = ran.keeper (sym c.has_failed.ensures ∙ c.if-has_failed.false) in
    c.board-2.ensures.long ∙ ap (λ (x : CaseData). length (jobs_in x)) (ap (λ (k : KeeperData). k.case) kept ∙ c.requires.case)
    ∙ sym (ap (λ (l : List Job). length l) (list_of base.case base.list c.facts.ensures.jobs))

pub returns : goal.returns
returns g c =
    let base = c.args.baseline.now in
    let window = c.args.window.now in
    let old = record c.args.ready.now { shortcuts = c.give_shortcuts.result } in
    let new = c.perform-performed.new.ready in
    let performed = c.perform-performed.result in
    let ran =
    subst (λ (r : ReadyData). IsCarriedOutAs r.shortcuts g.D.Disk.tells r c.perform-performed.new.ready (g.D.Disk.past c.args.disk.now) (g.D.Disk.past c.perform-performed.new.disk) (g.D.Disk.faults c.args.disk.now) (g.D.Disk.faults c.perform-performed.new.disk) c.perform-performed.result) c.give_shortcuts.ensures c.perform-performed.ensures in
    let before = g.D.Disk.past c.args.disk.now in
    let now = g.D.Disk.past c.perform-performed.new.disk in
    let answer = status_of c.report_window.result in
    let fine = sym c.has_failed.ensures ∙ c.if-has_failed.false in
    let listed = c.board.ensures.jobs in
    let long = sym (ap (λ (b : List (Option Outcome)). length b) c.board.ensures.value) ∙ c.board.ensures.long in
    let long_now = sym (ap (λ (b : List (Option Outcome)). length b) c.board-2.ensures.value) ∙ c.board-2.ensures.long in
    let ends = subst (λ (b : List (Option Outcome)). EndsByCounting window base.case b answer) c.board-2.ensures.value c.report_window.ensures.ends in
    record {
      cause = work_ends c.give_shortcuts.result g.D.Disk.tells old new before now _ _ performed ran base.case window c.requires.case c.requires.all c.requires.window fine listed long long_now answer ends;
      output = said_by g.O.Sink.tells g.O.Sink.taken g.O.Sink.faults window base.case new.keeper.board _ _ c.args.out.now c.report_window.new.out answer ends
          (λ each. report_text c.give_shortcuts.result g.D.Disk.tells old new before now _ _ performed ran base.case window c.requires.case c.requires.all c.requires.window fine listed long long_now c.args.format each)
          (said_so g.O.Sink.tells g.O.Sink.taken g.O.Sink.faults _ _ c.args.out.now c.report_window.new.out answer (ap (board_report_in c.args.format base.case window) c.board-2.ensures.value)
          c.report_window.ensures.output);
      keeps = work_keeps c.give_shortcuts.result g.D.Disk.tells old new before now _ _ performed ran base.case window c.requires.case c.requires.all c.requires.window fine listed long long_now answer ends;
      story = λ told. work_story c.give_shortcuts.result g.D.Disk.tells old new before now _ _ performed ran base.case window c.requires.case c.requires.all c.requires.window fine listed long long_now answer told ends;
    }

pub returns-then-has_failed : goal.returns-then-has_failed
returns-then-has_failed g c =
    let base = c.args.baseline.now in
    let window = c.args.window.now in
    let old = record c.args.ready.now { shortcuts = c.give_shortcuts.result } in
    let new = c.perform-performed.new.ready in
    let performed = c.perform-performed.result in
    let ran =
    subst (λ (r : ReadyData). IsCarriedOutAs r.shortcuts g.D.Disk.tells r c.perform-performed.new.ready (g.D.Disk.past c.args.disk.now) (g.D.Disk.past c.perform-performed.new.disk) (g.D.Disk.faults c.args.disk.now) (g.D.Disk.faults c.perform-performed.new.disk) c.perform-performed.result) c.give_shortcuts.ensures c.perform-performed.ensures in
    let before = g.D.Disk.past c.args.disk.now in
    let now = g.D.Disk.past c.perform-performed.new.disk in
    let failed = sym c.has_failed.ensures ∙ c.if-has_failed.true in
    record {
      cause = tt;
      output = silent_story g.O.Sink.tells g.O.Sink.taken g.O.Sink.faults _ c.args.out.now _ tt;
      keeps = fault_keeps c.give_shortcuts.result g.D.Disk.tells old new before now _ _ performed ran base.case window c.requires.case c.requires.all c.requires.window failed;
      story = λ told. fault_story c.give_shortcuts.result g.D.Disk.tells old new before now _ _ performed ran base.case window c.requires.case c.requires.all c.requires.window failed told;
    }
