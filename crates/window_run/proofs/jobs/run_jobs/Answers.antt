use Rattle.std.proofs.Common.{rules, ◌≡◌, ℕ, Bool, false, Ok, Option, inl, ap, refl, sym, subst, ◌∙◌}
use Rattle.fs_outside.specs.Faults.{IsCaused}
use Rattle.fs_outside.specs.Past.{content}
use Rattle.fs_model.specs.Card.{HasCard}
use Rattle.fs_model.specs.Case.{CaseData}
use Rattle.result_keeper.specs.Acceptance.{accept}
use Rattle.result_keeper.specs.Keep.{HasFile, KeeperData}
use Rattle.command_line.specs.Window.{running_of}
use Rattle.phases.specs.Failures.{status_of}
use Rattle.phases.specs.Status.{is_keep_fault}
use Rattle.phases.proofs.Outputs.{reworded, silent_story}
use Rattle.kept_commands.proofs.Crashes.{OpensSo, opening_cut}
use Rattle.window_run.specs.Crash.{WindowStory}
use Rattle.window_run.specs.Ends.{EndsInWindow, window_batches}
use Rattle.window_run.specs.Says.{WindowSays}
use Rattle.window_run.proofs.Openings.{budget_is, case_is, keeper_is, ready_story, shard_is, window_is}
use Rattle.window_run.proofs.Stories.{ends_leaves, opened_window, window_end}
use Rattle.window_run.proofs.jobs.run_jobs.Goals as goal

pub run_due-answer-requires-clause-case : goal.run_due-answer-requires-clause-case
run_due-answer-requires-clause-case g c = λ κs lives.
    case_is (running_of c.args.running.now) c.args.window.now c.case.result.now _ c.in-Ok.ready c.keep_to.new.self c.keep_to.ensures.same c.in-Ok.ensures.ready ∙ c.case.ensures

pub run_due-answer-requires-clause-healthy : goal.run_due-answer-requires-clause-healthy
run_due-answer-requires-clause-healthy g c = λ κs lives.
    ap (λ (k : KeeperData). k.healthy) (keeper_is (running_of c.args.running.now) c.args.window.now c.case.result.now _ c.in-Ok.ready c.keep_to.new.self c.keep_to.ensures.same c.in-Ok.ensures.ready)
    ∙ c.in-Ok.ensures.ready.keeper.healthy

pub run_due-answer-requires-clause-file : goal.run_due-answer-requires-clause-file
run_due-answer-requires-clause-file g c = λ κs lives told.
    subst (λ (k : KeeperData). HasFile k (g.D.Disk.past c.prepare.new.disk))
    (sym (keeper_is (running_of c.args.running.now) c.args.window.now c.case.result.now _ c.in-Ok.ready c.keep_to.new.self c.keep_to.ensures.same c.in-Ok.ensures.ready)) (c.in-Ok.ensures.file told)

pub run_due-answer-requires-clause-all : goal.run_due-answer-requires-clause-all
run_due-answer-requires-clause-all g c = λ κs lives.
    shard_is (running_of c.args.running.now) c.args.window.now c.case.result.now _ c.in-Ok.ready c.keep_to.new.self c.keep_to.ensures.same c.in-Ok.ensures.ready

pub run_due-answer-requires-clause-window : goal.run_due-answer-requires-clause-window
run_due-answer-requires-clause-window g c = λ κs lives.
    window_is (running_of c.args.running.now) c.args.window.now c.case.result.now _ c.in-Ok.ready c.keep_to.new.self c.keep_to.ensures.same c.in-Ok.ensures.ready

pub returns-in-Ok : goal.returns-in-Ok
returns-in-Ok g c =
    let ready = c.in-Ok.ensures in
    let ran = c.run_due-answer.ensures in
    let asked = running_of c.args.running.now in
    let window = c.args.window.now in
    let base = c.args.baseline.now in
    let case = c.case.result.now in
    let is : case ≡ base.case = c.case.ensures in
    let keep = c.keep_to.new.self in
    let same = c.keep_to.ensures.same in
    let answer = status_of c.run_due-answer.result in
    let old = g.D.Disk.past c.args.disk.now in
    let mid = g.D.Disk.past c.prepare.new.disk in
    let new = g.D.Disk.past c.run_due-answer.new.disk in
    let card : HasCard case = subst HasCard (sym is) c.facts.ensures.card in
    let keeper = keeper_is asked window case _ c.in-Ok.ready keep same ready.ready in
    let opened : g.D.Disk.tells → accept (content old) base.case ≡ Ok keep.keeper.board = λ told.
    subst (λ (x : CaseData). accept (content old) x ≡ Ok keep.keeper.board) is (ready.board told refl ∙ ap (λ (k : KeeperData). Ok k.board) (sym keeper)) in
    record {
      cause =
          window_end g.D.Disk.tells asked.stop_after window (content old) base.case keep.keeper.board answer opened
          (subst (λ (b : Option ℕ). EndsInWindow b window base.case keep.keeper.board answer) (budget_is asked window case _ c.in-Ok.ready keep same ready.ready) ran.cause);
      output = reworded _ _ g.O.Sink.taken g.O.Sink.faults _ (WindowSays asked.format window (content old) base.case) c.args.out.now c.run_due-answer.new.out answer
          (λ told. told.1) (λ told text says. (keep.keeper.board, opened told.0, says)) ran.output;
      keeps = subst (λ (n : ℕ). IsCaused (is_keep_fault answer) n (g.D.Disk.faults c.run_due-answer.new.disk)) ready.cause ran.keeps;
      story = λ told.
          subst (λ (x : CaseData). WindowStory (window_batches asked window x) window x old new answer) is
          (ready_story asked window case _ c.in-Ok.ready keep same ready.ready old mid new answer
          (record { sound = ready.sound told; old_rows = ready.old_rows told; rows_stay = ready.rows_stay told; three = ready.any_moment told; kept_so = ready.any_moment_kept told })
          card (ready.file told) (ready.board told refl) (ready.begun told) (ready.kept told)
          (ends_leaves _ window base.case keep.keeper.board answer ran.cause) (ran.story told));
    }

pub returns-in-Err-KeepFault : goal.returns-in-Err-KeepFault
returns-in-Err-KeepFault g c =
    let opened = c.prepare.ensures in
    let asked = running_of c.args.running.now in
    let window = c.args.window.now in
    let base = c.args.baseline.now in
    let old = g.D.Disk.past c.args.disk.now in
    let mid = g.D.Disk.past c.prepare.new.disk in
    let opens = λ (told : g.D.Disk.tells). subst (λ (x : CaseData). OpensSo false x old mid) c.case.ensures
    (record { sound = opened.sound told; old_rows = opened.old_rows told; rows_stay = opened.rows_stay told; three = opened.any_moment told; kept_so = opened.any_moment_kept told }) in
    record {
      cause = tt;
      output = silent_story _ g.O.Sink.taken g.O.Sink.faults _ c.args.out.now _ tt;
      keeps = let cause = c.in-Err-KeepFault.ensures.cause in search rules;
      story = λ told.
          opened_window (window_batches asked window base.case) window base.case old mid (opens told) _ (λ leaves. absurd leaves)
          (opening_cut false (window_batches asked window base.case) base.case old mid (opens told));
    }

pub returns-in-Err-Refused : goal.returns-in-Err-Refused
returns-in-Err-Refused g c =
    let opened = c.prepare.ensures in
    let asked = running_of c.args.running.now in
    let window = c.args.window.now in
    let base = c.args.baseline.now in
    let old = g.D.Disk.past c.args.disk.now in
    let mid = g.D.Disk.past c.prepare.new.disk in
    let opens = λ (told : g.D.Disk.tells). subst (λ (x : CaseData). OpensSo false x old mid) c.case.ensures
    (record { sound = opened.sound told; old_rows = opened.old_rows told; rows_stay = opened.rows_stay told; three = opened.any_moment told; kept_so = opened.any_moment_kept told }) in
    record {
      cause = λ told. rw (← c.case.ensures) (let refused = c.in-Err-Refused.ensures.refused told in search rules);
      output = silent_story _ g.O.Sink.taken g.O.Sink.faults _ c.args.out.now _ tt;
      keeps = let cause = c.in-Err-Refused.ensures.cause in search rules;
      story = λ told.
          opened_window (window_batches asked window base.case) window base.case old mid (opens told) _
          (λ leaves. let err = c.in-Err-Refused.ensures.err told in search rules) tt;
    }

pub returns-in-Err-NoMemory : goal.returns-in-Err-NoMemory
returns-in-Err-NoMemory g c =
    let opened = c.prepare.ensures in
    let asked = running_of c.args.running.now in
    let window = c.args.window.now in
    let base = c.args.baseline.now in
    let old = g.D.Disk.past c.args.disk.now in
    let mid = g.D.Disk.past c.prepare.new.disk in
    let opens = λ (told : g.D.Disk.tells). subst (λ (x : CaseData). OpensSo false x old mid) c.case.ensures
    (record { sound = opened.sound told; old_rows = opened.old_rows told; rows_stay = opened.rows_stay told; three = opened.any_moment told; kept_so = opened.any_moment_kept told }) in
    record {
      cause = tt;
      output = silent_story _ g.O.Sink.taken g.O.Sink.faults _ c.args.out.now _ tt;
      keeps = let cause = c.in-Err-NoMemory.ensures.cause in search rules;
      story = λ told.
          opened_window (window_batches asked window base.case) window base.case old mid (opens told) _ (λ leaves. absurd leaves)
          (inl (let err = c.in-Err-NoMemory.ensures.err told in search rules));
    }
