use Rattle.std.proofs.Common.{rules, inl, ◌≡◌, ℕ, Bool, Ok, Option, ap, sym, subst, ◌∙◌}
use Rattle.fs_outside.specs.Faults.{IsCaused}
use Rattle.fs_outside.specs.Past.{content}
use Rattle.fs_model.specs.Card.{HasCard}
use Rattle.fs_model.specs.Case.{CaseData}
use Rattle.phases.specs.Baselines.{Halts}
use Rattle.phases.specs.Reports.{run_report}
use Rattle.phases.specs.Status.{is_keep_fault}
use Rattle.phases.specs.Failures.{status_of}
use Rattle.phases.proofs.Outputs.{reworded, silent_story}
use Rattle.phases.proofs.Reported.{halts}
use Rattle.kept_commands.specs.Keep.{EndsFrom, RunSays, opening}
use Rattle.campaign.specs.Perform.{batches_due}
use Rattle.campaign.specs.Shards.{in_shard}
use Rattle.campaign.proofs.OfShard.{shard_portion}
use Rattle.command_line.specs.Request.{campaign_of}
use Rattle.kept_commands.specs.Run.{run_due, run_portion}
use Rattle.kept_commands.proofs.Crashes.{opened_story, opening_cut, pages_behind, run_pages}
use Rattle.kept_commands.proofs.FileEnds.{ends_writes, keep_cause, opening_is, refused_is}
use Rattle.kept_commands.proofs.run.run_jobs.Goals as goal

pub returns-in-Ok : goal.returns-in-Ok
returns-in-Ok g c =
    let ready = c.in-Ok.ensures in
    let ran = c.run_ready-answer.ensures in
    let asked = c.args.campaign.now in
    let base = c.args.baseline.now in
    let case = c.case.result.now in
    let is : case ≡ base.case = c.case.ensures in
    let halting : Halts case = subst Halts (sym is) (halts base.case base.golden c.facts.ensures.runs) in
    let card : HasCard case = subst HasCard (sym is) c.facts.ensures.card in
    let board = c.in-Ok.ready.keeper.board in
    let file = content (g.D.Disk.past c.args.disk.now) in
    let opened : g.D.Disk.tells → opening asked.fresh file case ≡ Ok board = λ told. opening_is asked.fresh file case board (ready.board told) ready.fresh in
    let shard_is = ready.ready.same_shard ∙ c.numbers_of.ensures.value in
    let jobs_are = shard_portion c.in-Ok.ready asked.shard shard_is ready.ready.no_window in
    rw (← is) (record {
      cause =
          keep_cause g.D.Disk.tells asked.fresh (run_portion (campaign_of asked)) file case board (status_of c.run_ready-answer.result) halting opened
          (subst (λ (b : Option ℕ). EndsFrom (record { budget = b; jobs = in_shard asked.shard }) board (status_of c.run_ready-answer.result)) ready.ready.same_budget
          (subst (λ (p : ℕ → Bool). EndsFrom (record { budget = c.in-Ok.ready.budget; jobs = p }) board (status_of c.run_ready-answer.result)) jobs_are ran.cause));
      output = reworded _ _ g.O.Sink.taken g.O.Sink.faults _ (RunSays asked.format asked.fresh file case) c.args.out.now c.run_ready-answer.new.out (status_of c.run_ready-answer.result)
          (λ told. told.1) (λ told text says. (board, opened told.0, says ∙ ap (λ (x : CaseData). run_report asked.format x board) (sym is))) ran.output;
      keeps = subst (λ (n : ℕ). IsCaused (is_keep_fault (status_of c.run_ready-answer.result)) n (g.D.Disk.faults c.run_ready-answer.new.disk)) ready.cause ran.keeps;
      story = λ told.
          pages_behind (Unit {0}) asked.fresh (run_due (campaign_of asked) case) case (g.D.Disk.past c.args.disk.now) (g.D.Disk.past c.prepare.new.disk) (g.D.Disk.past c.run_ready-answer.new.disk)
          c.in-Ok.ready.keeper (batches_due c.in-Ok.ready) (status_of c.run_ready-answer.result)
          (record { sound = ready.sound told; old_rows = ready.old_rows told; rows_stay = ready.rows_stay told; three = ready.any_moment told; kept_so = ready.any_moment_kept told })
          card ready.ready.keeper.same_case (run_pages (campaign_of asked) case c.in-Ok.ready _ (record { keeper = ready.ready.keeper; same_spacing = ready.ready.same_spacing; same_budget = ready.ready.same_budget; same_shard = shard_is; no_window = ready.ready.no_window; no_shortcuts = ready.ready.no_shortcuts; no_step = ready.ready.no_step })) (ready.file told) (ready.board told) ready.fresh (ready.begun told) (ready.kept told)
          (λ l. absurd (ends_writes _ board (status_of c.run_ready-answer.result) ran.cause l)) (ran.story told);
    })

pub returns-in-Err-KeepFault : goal.returns-in-Err-KeepFault
returns-in-Err-KeepFault g c =
    let opened = c.prepare.ensures in
    let asked = c.args.campaign.now in
    let base = c.args.baseline.now in
    let case = c.case.result.now in
    let is : case ≡ base.case = c.case.ensures in
    let halting : Halts case = subst Halts (sym is) (halts base.case base.golden c.facts.ensures.runs) in
    rw (← is) (record {
      cause = (halting, λ told. tt);
      output = silent_story _ g.O.Sink.taken g.O.Sink.faults _ c.args.out.now _ tt;
      keeps = let cause = c.in-Err-KeepFault.ensures.cause in search rules;
      story = λ told.
          opened_story (Unit {0}) asked.fresh (run_due (campaign_of asked) case) case (g.D.Disk.past c.args.disk.now) (g.D.Disk.past c.prepare.new.disk) _
          (record { sound = opened.sound told; old_rows = opened.old_rows told; rows_stay = opened.rows_stay told; three = opened.any_moment told; kept_so = opened.any_moment_kept told })
          (λ l. absurd l)
          (opening_cut asked.fresh (run_due (campaign_of asked) case) case (g.D.Disk.past c.args.disk.now) (g.D.Disk.past c.prepare.new.disk)
          (record { sound = opened.sound told; old_rows = opened.old_rows told; rows_stay = opened.rows_stay told; three = opened.any_moment told; kept_so = opened.any_moment_kept told }));
    })

pub returns-in-Err-Refused : goal.returns-in-Err-Refused
returns-in-Err-Refused g c =
    let opened = c.prepare.ensures in
    let asked = c.args.campaign.now in
    let base = c.args.baseline.now in
    let case = c.case.result.now in
    let is : case ≡ base.case = c.case.ensures in
    let halting : Halts case = subst Halts (sym is) (halts base.case base.golden c.facts.ensures.runs) in
    rw (← is) (record {
      cause = (
        halting,
        λ told. rw c.in-Err-Refused.field-0-is (refused_is asked.fresh (content (g.D.Disk.past c.args.disk.now)) case c.in-Err-Refused.refusal (let refused = c.in-Err-Refused.ensures.refused told in search rules)),
      );
      output = silent_story _ g.O.Sink.taken g.O.Sink.faults _ c.args.out.now _ tt;
      keeps = let cause = c.in-Err-Refused.ensures.cause in search rules;
      story = λ told.
          opened_story (Unit {0}) asked.fresh (run_due (campaign_of asked) case) case (g.D.Disk.past c.args.disk.now) (g.D.Disk.past c.prepare.new.disk) _
          (record { sound = opened.sound told; old_rows = opened.old_rows told; rows_stay = opened.rows_stay told; three = opened.any_moment told; kept_so = opened.any_moment_kept told })
          (λ l. let err = c.in-Err-Refused.ensures.err told in search rules) tt;
    })

pub returns-in-Err-NoMemory : goal.returns-in-Err-NoMemory
returns-in-Err-NoMemory g c =
    let opened = c.prepare.ensures in
    let asked = c.args.campaign.now in
    let base = c.args.baseline.now in
    let case = c.case.result.now in
    let is : case ≡ base.case = c.case.ensures in
    rw (← is) (record {
      cause = tt;
      output = silent_story _ g.O.Sink.taken g.O.Sink.faults _ c.args.out.now _ tt;
      keeps = let cause = c.in-Err-NoMemory.ensures.cause in search rules;
      story = λ told.
          opened_story (Unit {0}) asked.fresh (run_due (campaign_of asked) case) case (g.D.Disk.past c.args.disk.now) (g.D.Disk.past c.prepare.new.disk) _
          (record { sound = opened.sound told; old_rows = opened.old_rows told; rows_stay = opened.rows_stay told; three = opened.any_moment told; kept_so = opened.any_moment_kept told })
          (λ l. absurd l) (inl (let err = c.in-Err-NoMemory.ensures.err told in search rules));
    })
