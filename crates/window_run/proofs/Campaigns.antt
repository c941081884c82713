-- What a campaign that keeps to a window leaves: its board, what the count of it says, and its file.
use Rattle.std.proofs.Common.{All, ◌≡◌, ℕ, ◌+◌, Bool, true, false, List, length, drop, Option, Some, None, refl, ap, sym, subst, ◌∙◌}
use Rattle.std.proofs.Math.Path.{fun_ext}
use Rattle.fs_outside.specs.Faults.{IsCaused}
use Rattle.fs_outside.specs.Past.{Past, content, EachImage}
use Rattle.fs_model.specs.declared.outcomes.Outcome.{Outcome}
use Rattle.fs_model.specs.declared.outcomes.Row.{Row}
use Rattle.fs_model.specs.declared.sites.Job.{Job}
use Rattle.fs_model.specs.Case.{CaseData}
use Rattle.fs_model.specs.Job.{jobs_in}
use Rattle.fs_model.specs.Outcome.{outcome}
use Rattle.fs_model.specs.Pages.{within_budget}
use Rattle.fs_model.specs.Verdict.{IsRight}
use Rattle.keep_format.specs.KeepFile.{rows_held}
use Rattle.def_use.specs.Board.{kept_of}
use Rattle.result_keeper.specs.Acceptance.{HasRightOldRows}
use Rattle.result_keeper.specs.Batches.{all_rows}
use Rattle.result_keeper.specs.Boards.{filed}
use Rattle.result_keeper.specs.Keep.{Gives, KeeperData}
use Rattle.result_keeper.proofs.Cuts.{batches_right}
use Rattle.campaign.specs.CarriedOut.{IsCarriedOutAs}
use Rattle.campaign.specs.Perform.{batches_due, is_fault}
use Rattle.campaign.specs.Portions.{due}
use Rattle.campaign.specs.Ready.{ReadyData, portion_of}
use Rattle.campaign.specs.declared.performing.Performed.{Performed}
use Rattle.command_line.specs.declared.commands.Format.{Format}
use Rattle.phases.specs.Output.{IsText, OutputStory}
use Rattle.phases.specs.Status.{is_keep_fault}
use Rattle.phases.specs.declared.status.Status.{Status}
use Rattle.phases.specs.declared.status.Status.TheVariants as status
use Rattle.phases.proofs.Outputs.{said_so}
use Rattle.kept_commands.specs.Crash.{HoldsUpTo}
use Rattle.kept_commands.proofs.Crashes.{broken_pages, pages_as}
use Rattle.window_run.specs.Crash.{DuePagesStory, KeepsDueAtEnd}
use Rattle.window_run.specs.Ends.{EndsByCounting, EndsInWindow, HasEachDue, window_jobs}
use Rattle.window_run.specs.Says.{board_report_in, filled_report_in, window_report}
use Rattle.window_run.proofs.Clipped.{filed_totals}
use Rattle.window_run.proofs.DueJobs.{portion_is}
use Rattle.window_run.proofs.Stories.{counted_end, counted_ends, counted_keeps, counted_leaves}

-- the text of a count has another form if each due job has an outcome
pub said_by : {T : Type 0} (tells : Type 0) (taken : T → List ℕ) (faults : T → ℕ) (window : List Bool) (c : CaseData) (board : List (Option Outcome)) (text text' : List ℕ) (old new : T) (answer : Status)
    → EndsByCounting window c board answer → (HasEachDue window c board → text ≡ text') → OutputStory tells taken faults (IsText text) old new answer
    → OutputStory tells taken faults (IsText text') old new answer
said_by tells taken faults window c board text text' old new (status.Stopped kept jobs) ends same story = record {
  whole = λ told done. absurd (cc);
  part = λ told failed. absurd (cc);
  nothing = story.nothing;
  cause = story.cause;
}
said_by tells taken faults window c board text text' old new status.Done ends same story = said_so tells taken faults text text' old new status.Done (same ends) story
said_by tells taken faults window c board text text' old new status.WriteFault ends same story = said_so tells taken faults text text' old new status.WriteFault (same ends) story
said_by tells taken faults window c board text text' old new status.NoMemory ends same story = said_so tells taken faults text text' old new status.NoMemory (same ends) story
said_by tells taken faults window c board text text' old new answer ends same story = absurd ends

module _ (meets : Bool) (tells : Type 0) (old new : ReadyData) (before now : Past) (faults faults' : ℕ) (performed : Performed) (ran : IsCarriedOutAs meets tells old new before now faults faults' performed)
    (c : CaseData) (window : List Bool) (case_is : old.keeper.case ≡ c) (all : old.shard ≡ None) (window_is : old.window ≡ Some window) where
  jobs_are : portion_of old ≡ window_jobs window c
  jobs_are = portion_is old window c all window_is case_is

  abbrev up : Type 0
  up = HoldsUpTo (EachImage before HasRightOldRows) (rows_held (content before)) (batches_due old) now

  -- ---- the disk did not fail

  module _ (fine : is_fault performed ≡ false) (listed : old.keeper.list ≡ jobs_in old.keeper.case) (long : length old.keeper.board ≡ length (jobs_in old.keeper.case))
      (long_now : length new.keeper.board ≡ length (jobs_in new.keeper.case)) where
    same_case : new.keeper.case ≡ old.keeper.case
    same_case = ap (λ (k : KeeperData). k.case) (ran.keeper fine)

    abbrev rows : List Row
    rows = all_rows (batches_due old)

    rows_right : All (IsRight c) rows
    rows_right =
        subst (λ (x : CaseData). All (IsRight x) (all_rows (batches_due old))) case_is
        (batches_right old.keeper.case (jobs_in old.keeper.case) old.keeper.page (within_budget old.budget (due (portion_of old) old.keeper.board)))

    board_is : new.keeper.board ≡ filed (jobs_in c) old.keeper.board rows
    board_is =
        ap (λ (k : KeeperData). k.board) (ran.keeper fine)
        ∙ ap (λ (l : List Job). filed l old.keeper.board (all_rows (batches_due old))) (listed ∙ ap jobs_in case_is)

    old_long : length old.keeper.board ≡ length (jobs_in c)
    old_long = long ∙ ap (λ (x : CaseData). length (jobs_in x)) case_is

    pub new_long : length new.keeper.board ≡ length (jobs_in c)
    new_long = long_now ∙ ap (λ (x : CaseData). length (jobs_in x)) (same_case ∙ case_is)

    -- how the work ends
    pub work_ends : (answer : Status) → EndsByCounting window c new.keeper.board answer → EndsInWindow old.budget window c old.keeper.board answer
    work_ends answer ends =
        counted_ends old.budget window c old.keeper.board new.keeper.board
        (subst (λ (p : ℕ → Bool). due p new.keeper.board ≡ drop (length (within_budget old.budget (due p old.keeper.board))) (due p old.keeper.board)) jobs_are (ran.left fine))
        (subst (λ (p : ℕ → Bool). kept_of new.keeper.board ≡ kept_of old.keeper.board + length (within_budget old.budget (due p old.keeper.board))) jobs_are (ran.more fine))
        (new_long ∙ sym old_long) answer ends

    -- what is written
    pub report_text : (asked : Format) → HasEachDue window c new.keeper.board → board_report_in asked c window new.keeper.board ≡ filled_report_in asked c window old.keeper.board
    report_text asked each =
        ap (window_report asked c window) (fun_ext (λ o. filed_totals c rows rows_right window o old.keeper.board new.keeper.board old_long board_is each))

    -- what is left of the file
    pub work_story : (answer : Status) → tells → EndsByCounting window c new.keeper.board answer → DuePagesStory old.keeper (batches_due old) window before now answer
    work_story answer told ends =
        pages_as old (KeepsDueAtEnd up ⊥ window old.keeper.case now answer) before now answer (counted_leaves window c new.keeper.board answer ends)
        (ran.sound told) (ran.old_rows told) (ran.rows_stay told) (ran.any_moment told)
        (λ right gives.
        counted_end up ⊥ window old.keeper.case now new.keeper.board answer
        (subst (λ (x : CaseData). EachImage now (Gives x new.keeper.board)) same_case (ran.kept told right gives fine))
        (subst (λ (x : CaseData). EndsByCounting window x new.keeper.board answer) (sym case_is) ends))

    pub work_keeps : (answer : Status) → EndsByCounting window c new.keeper.board answer → IsCaused (is_keep_fault answer) faults faults'
    work_keeps answer ends =
        subst (λ (b : Bool). IsCaused b faults faults') (sym (counted_keeps window c new.keeper.board answer ends)) (subst (λ (b : Bool). IsCaused b faults faults') fine ran.cause)

  -- ---- the disk failed

  module _ (failed : is_fault performed ≡ true) where
    pub fault_story : tells → DuePagesStory old.keeper (batches_due old) window before now status.KeepFault
    fault_story told =
        pages_as old (KeepsDueAtEnd up ⊥ window old.keeper.case now status.KeepFault) before now status.KeepFault (λ leaves. leaves)
        (ran.sound told) (ran.old_rows told) (ran.rows_stay told) (ran.any_moment told)
        (λ right gives. broken_pages tells before now old.keeper new.keeper (batches_due old) told (ran.broken failed))

    pub fault_keeps : IsCaused true faults faults'
    fault_keeps = subst (λ (b : Bool). IsCaused b faults faults') failed ran.cause
