-- A campaign that was made ready, and then kept to a window.
use Rattle.std.proofs.Common.{◌≡◌, ℕ, Bool, false, List, Option, Some, None, Ok, refl, ap, sym, subst, ◌∙◌}
use Rattle.fs_outside.specs.Past.{Past, content, EachImage}
use Rattle.fs_model.specs.declared.outcomes.Outcome.{Outcome}
use Rattle.fs_model.specs.declared.outcomes.Row.{Row}
use Rattle.fs_model.specs.Card.{HasCard, card}
use Rattle.fs_model.specs.Case.{CaseData}
use Rattle.result_keeper.specs.Accept.{IsBegun}
use Rattle.result_keeper.specs.Acceptance.{accept}
use Rattle.result_keeper.specs.Begin.{IsHeaded}
use Rattle.result_keeper.specs.Keep.{Gives, HasFile, KeeperData}
use Rattle.campaign.specs.Perform.{batches_due}
use Rattle.campaign.specs.Ready.{IsPrepared, ReadyData, portion_of}
use Rattle.campaign.specs.Rows.{batches}
use Rattle.command_line.specs.Window.{RunningData}
use Rattle.phases.specs.declared.status.Status.{Status}
use Rattle.kept_commands.specs.Keep.{LeavesKeep}
use Rattle.kept_commands.proofs.Crashes.{OpensSo}
use Rattle.window_run.specs.Crash.{DuePagesStory, WindowStory}
use Rattle.window_run.specs.Ends.{window_batches, window_jobs}
use Rattle.window_run.proofs.DueJobs.{portion_is}
use Rattle.window_run.proofs.Stories.{window_story}

module _ (asked : RunningData) (window : List Bool) (c : CaseData) (spacing : ℕ) (ready keep : ReadyData) (is : keep ≡ record ready { window = Some window })
    (prepared : IsPrepared ready c asked.page spacing asked.stop_after None) where
  pub keeper_is : keep.keeper ≡ ready.keeper
  keeper_is = ap (λ (r : ReadyData). r.keeper) is

  pub budget_is : keep.budget ≡ asked.stop_after
  budget_is = ap (λ (r : ReadyData). r.budget) is ∙ prepared.same_budget

  pub shard_is : keep.shard ≡ None
  shard_is = ap (λ (r : ReadyData). r.shard) is ∙ prepared.same_shard

  pub window_is : keep.window ≡ Some window
  window_is = ap (λ (r : ReadyData). r.window) is

  pub case_is : keep.keeper.case ≡ c
  case_is = ap (λ (k : KeeperData). k.case) keeper_is ∙ prepared.keeper.same_case

  page_is : keep.keeper.page ≡ asked.page
  page_is = ap (λ (k : KeeperData). k.page) keeper_is ∙ prepared.keeper.same_page

  -- it appends the rows of the missing jobs that are due
  pages_are : batches_due keep ≡ window_batches asked window c keep.keeper.board
  pages_are =
      ap (λ (x : CaseData). batches x (portion_of keep) keep.keeper.board keep.keeper.page keep.budget) case_is
      ∙ ap (λ (p : ℕ → Bool). batches c p keep.keeper.board keep.keeper.page keep.budget) (portion_is keep window c shard_is window_is case_is)
      ∙ ap (λ (p : ℕ). batches c (window_jobs window c) keep.keeper.board p keep.budget) page_is
      ∙ ap (λ (b : Option ℕ). batches c (window_jobs window c) keep.keeper.board asked.page b) budget_is

  pub ready_story : (old mid new : Past) (answer : Status) → OpensSo false c old mid → HasCard c → HasFile ready.keeper mid → accept (content old) c ≡ Ok ready.keeper.board
      → (IsBegun false (content old) → IsHeaded (card c) (content mid)) → EachImage mid (Gives c ready.keeper.board) → (LeavesKeep answer → ⊥)
      → DuePagesStory keep.keeper (batches_due keep) window mid new answer → WindowStory (window_batches asked window c) window c old new answer
  ready_story old mid new answer opens has file board headed gives writes told =
      window_story (window_batches asked window c) window c old mid opens new keep.keeper (batches_due keep) answer has case_is pages_are
      (subst (λ (k : KeeperData). HasFile k mid) (sym keeper_is) file) (board ∙ ap (λ (k : KeeperData). Ok k.board) (sym keeper_is)) headed
      (subst (λ (k : KeeperData). EachImage mid (Gives c k.board)) (sym keeper_is) gives) (λ leaves. absurd (writes leaves)) told
