-- How the work on the jobs of a window ends, and what crashes leave of its campaign file, by how the count of its sites ended.
use Rattle.std.proofs.Common.{◌≡◌, ◌⊎◌, inl, inr, ⊎_elim, ℕ, ◌+◌, Bool, true, false, List, length, drop, Option, Ok, refl, sym, subst, ◌∙◌}
use Rattle.fs_outside.specs.Past.{Past, content, EachImage}
use Rattle.fs_model.specs.declared.outcomes.Outcome.{Outcome}
use Rattle.fs_model.specs.declared.outcomes.Row.{Row}
use Rattle.fs_model.specs.Card.{HasCard, card}
use Rattle.fs_model.specs.Case.{CaseData}
use Rattle.fs_model.specs.Pages.{within_budget}
use Rattle.keep_format.specs.KeepFile.{rows_held}
use Rattle.def_use.specs.Board.{kept_of}
use Rattle.result_keeper.specs.Accept.{IsBegun}
use Rattle.result_keeper.specs.Acceptance.{HasRightOldRows, accept}
use Rattle.result_keeper.specs.Begin.{IsHeaded}
use Rattle.result_keeper.specs.Keep.{Gives, HasFile, KeeperData}
use Rattle.campaign.specs.Portions.{due}
use Rattle.phases.specs.Status.{IsWriting, is_keep_fault}
use Rattle.phases.specs.declared.status.Status.{Status}
use Rattle.phases.specs.declared.status.Status.TheVariants as status
use Rattle.phases.proofs.Outputs.{IsSilent}
use Rattle.kept_commands.specs.Crash.{CrashStory, HoldsUpTo, IsCutOff, IsWorkedOn}
use Rattle.kept_commands.specs.Keep.{LeavesKeep}
use Rattle.kept_commands.proofs.Crashes.{OpensSo, opened_as, pages_behind_as, retold}
use Rattle.window_run.specs.Crash.{DuePagesStory, GivesEachDue, KeepsDueAtEnd, WindowStory}
use Rattle.window_run.specs.Ends.{EndsByCounting, EndsInWindow, HasEachDue, IsWindowEnd, window_jobs}
use Rattle.window_run.proofs.Budgets.{was_enough, was_short}
use Rattle.window_run.proofs.DueJobs.{none_left, some_left}

-- ---- the count

-- the sites were counted, and what was left was to write
pub counted_writes : (window : List Bool) (c : CaseData) (board : List (Option Outcome)) (answer : Status) → HasEachDue window c board → IsWriting answer → EndsByCounting window c board answer
counted_writes window c board status.Done each writing = each
counted_writes window c board status.WriteFault each writing = each
counted_writes window c board status.NoMemory each writing = each
counted_writes window c board answer each writing = absurd writing

-- it tells no fault of a campaign file
pub counted_keeps : (window : List Bool) (c : CaseData) (board : List (Option Outcome)) (answer : Status) → EndsByCounting window c board answer → is_keep_fault answer ≡ false
counted_keeps window c board (status.Stopped kept jobs) ends = refl
counted_keeps window c board status.Done ends = refl
counted_keeps window c board status.WriteFault ends = refl
counted_keeps window c board status.NoMemory ends = refl
counted_keeps window c board answer ends = absurd ends

-- nor does it leave the file as it was
pub counted_leaves : (window : List Bool) (c : CaseData) (board : List (Option Outcome)) (answer : Status) → EndsByCounting window c board answer → LeavesKeep answer → ⊥
counted_leaves window c board (status.Stopped kept jobs) ends leaves = leaves
counted_leaves window c board status.Done ends leaves = leaves
counted_leaves window c board status.WriteFault ends leaves = leaves
counted_leaves window c board status.NoMemory ends leaves = leaves
counted_leaves window c board answer ends leaves = ends

pub ends_leaves : (budget : Option ℕ) (window : List Bool) (c : CaseData) (board : List (Option Outcome)) (answer : Status) → EndsInWindow budget window c board answer → LeavesKeep answer → ⊥
ends_leaves budget window c board status.KeepFault ends leaves = leaves
ends_leaves budget window c board (status.Stopped kept jobs) ends leaves = leaves
ends_leaves budget window c board status.Done ends leaves = leaves
ends_leaves budget window c board status.WriteFault ends leaves = leaves
ends_leaves budget window c board status.NoMemory ends leaves = leaves
ends_leaves budget window c board answer ends leaves = ends

-- the board that was counted has the outcomes of the jobs that were run more: due jobs are left, or none is
module _ (budget : Option ℕ) (window : List Bool) (c : CaseData) (old new : List (Option Outcome))
    (left : due (window_jobs window c) new ≡ drop (length (within_budget budget (due (window_jobs window c) old))) (due (window_jobs window c) old))
    (more : kept_of new ≡ kept_of old + length (within_budget budget (due (window_jobs window c) old))) (long : length new ≡ length old) where
  pub counted_ends : (answer : Status) → EndsByCounting window c new answer → EndsInWindow budget window c old answer
  counted_ends (status.Stopped kept jobs) ends = record {
    over = was_short budget (due (window_jobs window c) old) (λ none. some_left window c new ends.first ends.is_due ends.blank (left ∙ none));
    kept_is = ends.kept_is ∙ more;
    jobs_is = ends.jobs_is ∙ long;
  }
  counted_ends status.Done ends = λ over. was_enough budget (due (window_jobs window c) old) (sym left ∙ none_left window c new ends) over
  counted_ends status.WriteFault ends = λ over. was_enough budget (due (window_jobs window c) old) (sym left ∙ none_left window c new ends) over
  counted_ends status.NoMemory ends = tt
  counted_ends answer ends = absurd ends

-- each crash gives the board that was counted
pub counted_end : (cut same : Type 0) (window : List Bool) (c : CaseData) (now : Past) (board : List (Option Outcome)) (answer : Status) → EachImage now (Gives c board)
    → EndsByCounting window c board answer → KeepsDueAtEnd cut same window c now answer
counted_end cut same window c now board (status.Stopped kept jobs) images ends = record { board = board; images = images; counted = sym ends.kept_is }
counted_end cut same window c now board status.Done images ends = record { board = board; images = images; each = ends }
counted_end cut same window c now board status.WriteFault images ends = record { board = board; images = images; each = ends }
counted_end cut same window c now board status.NoMemory images ends = inr (record { board = board; images = images; each = ends })
counted_end cut same window c now board answer images ends = absurd ends

-- ---- by the file

pub window_end : (tells : Type 0) (budget : Option ℕ) (window : List Bool) (file : List ℕ) (c : CaseData) (board : List (Option Outcome)) (answer : Status) → (tells → accept file c ≡ Ok board)
    → EndsInWindow budget window c board answer → IsWindowEnd tells budget window file c answer
window_end tells budget window file c board status.KeepFault opened ends = tt
window_end tells budget window file c board (status.Stopped kept jobs) opened ends = λ told. record { board = board; opened = opened told; stopped = ends }
window_end tells budget window file c board status.Done opened ends = λ told. record { board = board; opened = opened told; within = ends }
window_end tells budget window file c board status.WriteFault opened ends = λ told. record { board = board; opened = opened told; within = ends }
window_end tells budget window file c board status.NoMemory opened ends = tt
window_end tells budget window file c board answer opened ends = absurd ends

-- ---- the story

-- the same end in other words
due_ends_so : (cut cut' same same' : Type 0) (window : List Bool) (c : CaseData) (now : Past) (answer : Status) → (cut → cut') → (same → same') → KeepsDueAtEnd cut same window c now answer
    → KeepsDueAtEnd cut' same' window c now answer
due_ends_so cut cut' same same' window c now status.Done cuts sames ends = ends
due_ends_so cut cut' same same' window c now status.WriteFault cuts sames ends = ends
due_ends_so cut cut' same same' window c now (status.Stopped kept jobs) cuts sames ends = ends
due_ends_so cut cut' same same' window c now status.KeepFault cuts sames ends = cuts ends
due_ends_so cut cut' same same' window c now status.NoMemory cuts sames ends = ⊎_elim (λ s. inl (sames s)) (λ all. inr all) ends
due_ends_so cut cut' same same' window c now answer cuts sames ends = tt

-- a file that is never started again goes on
as_window : (left : Type 0 → List ℕ → Type 0) (ends : Type 0) (old new : Past) (answer : Status)
    → CrashStory (Unit {0}) (Unit {0}) ⊥ ((let no : Bool = false in no) ≡ false) left ends old new answer → CrashStory (Unit {0}) (Unit {0}) ⊥ (Unit {0}) left ends old new answer
as_window left ends old new answer story =
    retold (Unit {0}) (Unit {0}) (Unit {0}) (Unit {0}) ⊥ ⊥ ((let no : Bool = false in no) ≡ false) (Unit {0}) left left ends ends old new answer
    (λ so. so) (λ so. so) (λ no. no) (λ goes. refl) (λ goes. tt) (λ sure image is. is) (λ so end. end) story

module _ (due_rows : List (Option Outcome) → List (List Row)) (window : List Bool) (c : CaseData) (old mid : Past) (opens : OpensSo false c old mid) where
  -- an opening that failed
  pub opened_window : (answer : Status) → (LeavesKeep answer → content mid ≡ content old)
      → KeepsDueAtEnd (IsCutOff false due_rows c old mid) (content mid ≡ content old) window c mid answer → WindowStory due_rows window c old mid answer
  opened_window answer same end =
      let ends = KeepsDueAtEnd (IsCutOff false due_rows c old mid) (content mid ≡ content old) window c mid answer in
      as_window (λ sure. IsWorkedOn sure false due_rows c old) ends old mid answer
      (opened_as (Unit {0}) ends false due_rows c old mid answer opens same end)

  -- one that did not, and its pages
  pub window_story : (new : Past) (keeper : KeeperData) (pages : List (List Row)) (answer : Status) → HasCard c → keeper.case ≡ c → pages ≡ due_rows keeper.board → HasFile keeper mid
      → accept (content old) c ≡ Ok keeper.board → (IsBegun false (content old) → IsHeaded (card c) (content mid)) → EachImage mid (Gives c keeper.board)
      → (LeavesKeep answer → content new ≡ content old) → DuePagesStory keeper pages window mid new answer → WindowStory due_rows window c old new answer
  window_story new keeper pages answer has same_case pages_are file board headed gives writes told =
      let up = HoldsUpTo (EachImage mid HasRightOldRows) (rows_held (content mid)) pages new in
      let ends = KeepsDueAtEnd up ⊥ window keeper.case new answer in
      let ends' = KeepsDueAtEnd (IsCutOff false due_rows c old new) (content new ≡ content old) window c new answer in
      as_window (λ sure. IsWorkedOn sure false due_rows c old) ends' old new answer
      (pages_behind_as (Unit {0}) ends ends' false due_rows c old mid new keeper pages answer opens has same_case pages_are file (λ goes. board) (λ begun. absurd (cc)) headed gives writes
      (λ cuts end. due_ends_so up (IsCutOff false due_rows c old new) ⊥ (content new ≡ content old) window c new answer cuts (λ no. absurd no)
      (subst (λ (x : CaseData). KeepsDueAtEnd up ⊥ window x new answer) same_case end))
      told)
