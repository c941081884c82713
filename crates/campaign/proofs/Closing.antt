-- How a campaign ends, in the words of its contract.
use Rattle.std.proofs.Common.{◌≡◌, ℕ, ◌+◌, cond, ◌<◌, ◌≤◌, nat_lt, Bool, true, false, min, List, [], length, take, drop, Option, Some, None, refl, ap, sym, ◌∙◌, arith}
use Rattle.std.proofs.lemmas.Bool.Decides.{nat_tests}
use Rattle.std.proofs.lemmas.List.{drop_all}
use Rattle.fs_model.specs.declared.sites.Job.{Job}
use Rattle.fs_model.specs.declared.outcomes.Outcome.{Outcome}
use Rattle.fs_model.specs.declared.outcomes.Row.{Row}
use Rattle.fs_model.specs.Job.{jobs_in, HasOutcomes}
use Rattle.fs_model.specs.Case.{CaseData}
use Rattle.fs_model.specs.declared.outcomes.Outcome.TheVariants.{NoEffect}
use Rattle.fs_model.specs.AccessLog.{log, dead}
use Rattle.fs_model.specs.Filling.{board_filled, board_total}
use Rattle.fs_model.specs.Outcome.{TotalsData, outcome, count, total_at, same_outcome}
use Rattle.fs_model.specs.Pages.{missing, within_budget}
use Rattle.def_use.specs.Board.{kept_of}
use Rattle.result_keeper.specs.Blanks.{batches_for}
use Rattle.result_keeper.specs.Boards.{filed}
use Rattle.result_keeper.specs.Keep.{KeeperData}
use Rattle.result_keeper.proofs.Cuts.{batches_right}
use Rattle.result_keeper.proofs.Filing.{length-filed}
use Rattle.result_keeper.specs.Batches.{after_batches, all_rows}
use Rattle.campaign.specs.Perform.{batches_due, IsOver, IsShort, IsStopped}
use Rattle.campaign.specs.Ready.{ReadyData, portion_of}
use Rattle.campaign.specs.Portions.{due, within_window}
use Rattle.campaign.specs.Shards.{in_shard}
use Rattle.campaign.specs.Turn.{first_batches, least_of, steps_of_page}
use Rattle.worker_pool.specs.Steps.{steps_of_numbers}
use Rattle.campaign.proofs.Cuts.{within_take, within_some}
use Rattle.campaign.proofs.Due.{few_pass}
use Rattle.campaign.proofs.Missing.{kept_missing, none_missing}
use Rattle.campaign.proofs.Whole.{filed_whole, filled_right}

-- ---- how many

pub few_due : (portion : ℕ → Bool) (board : List (Option Outcome)) → length (due portion board) ≤ length (missing board)
few_due portion board = few_pass portion (missing board)

pub most_is : (budget : Option ℕ) (portion : ℕ → Bool) (board : List (Option Outcome)) (all most : ℕ) → all ≡ length (due portion board) → most ≡ least_of budget all
    → most ≡ length (within_budget budget (due portion board))
most_is None portion board all most a m = m ∙ a
most_is (Some b) portion board all most a m = m ∙ ap (min b) a ∙ sym (within_some b (due portion board))

pub most_there : (budget : Option ℕ) (all most : ℕ) → most ≡ least_of budget all → most ≤ all
most_there None all most m = omega arith
most_there (Some b) all most m = omega arith

-- the jobs that are run stay the same
pub same_portion : (old new : ReadyData) → new.shard ≡ old.shard → new.window ≡ old.window → new.keeper.case ≡ old.keeper.case → portion_of new ≡ portion_of old
same_portion old new shard window case =
    ap (λ (s : Option (ℕ × ℕ)). within_window (in_shard s) new.window (jobs_in new.keeper.case)) shard
    ∙ ap (λ (w : Option (List Bool)). within_window (in_shard old.shard) w (jobs_in new.keeper.case)) window
    ∙ ap (λ (c : CaseData). within_window (in_shard old.shard) old.window (jobs_in c)) case

-- ---- the batches

module _ (ready : ReadyData) (most : ℕ) (is : most ≡ length (within_budget ready.budget (due (portion_of ready) ready.keeper.board))) where
  numbers_are : take most (due (portion_of ready) ready.keeper.board) ≡ within_budget ready.budget (due (portion_of ready) ready.keeper.board)
  numbers_are = ap (λ (n : ℕ). take n (due (portion_of ready) ready.keeper.board)) is ∙ sym (within_take ready.budget (due (portion_of ready) ready.keeper.board))

  pub batches_same : first_batches (portion_of ready) ready.keeper most ≡ batches_due ready
  batches_same = ap (batches_for (outcome ready.keeper.case) (jobs_in ready.keeper.case) ready.keeper.page) numbers_are

  pub steps_same : steps_of_page ready most ≡ steps_of_numbers ready.keeper.case ready.spacing (jobs_in ready.keeper.case) (within_budget ready.budget (due (portion_of ready) ready.keeper.board))
  steps_same = ap (steps_of_numbers ready.keeper.case ready.spacing (jobs_in ready.keeper.case)) numbers_are

-- ---- what is left

-- with no budget reached the portion's jobs are all run
pub within_most : (budget : Option ℕ) (portion : ℕ → Bool) (board : List (Option Outcome)) (all most : ℕ) → all ≡ length (due portion board) → most ≡ least_of budget all
    → (IsOver budget portion board → ⊥) → all ≤ most
within_most None portion board all most all_is most_is within = omega (arith, most_is)
within_most (Some b) portion board all most all_is most_is within = by (nat_lt b all) refl
  where
    by : (t : Bool) → nat_lt b all ≡ t → all ≤ most
    by true less = let lt : b < all = grind (arith, nat_tests) in absurd (within (b, refl, omega (arith, lt, all_is)))
    by false not_less = let le : all ≤ b = grind (arith, nat_tests) in omega (arith, le, most_is)

pub none_due : (budget : Option ℕ) (portion : ℕ → Bool) (old new : List (Option Outcome)) (all most : ℕ) → all ≡ length (due portion old) → most ≡ least_of budget all → due portion new ≡ drop most (due portion old)
    → (IsOver budget portion old → ⊥) → due portion new ≡ []
none_due budget portion old new all most all_is most_is left within =
    let le = within_most budget portion old all most all_is most_is within in left ∙ drop_all most (due portion old) (omega (arith, all_is, le))

-- ---- stopped short

-- fewer jobs are run than are missing
pub short : (budget : Option ℕ) (portion : ℕ → Bool) (board : List (Option Outcome)) (all those most : ℕ) → all ≡ length (missing board) → those ≡ length (due portion board) → most ≡ least_of budget those → most < all
    → IsShort budget portion board
short budget portion board all those most all_is those_is least fewer =
    let within = most_is budget portion board those most those_is least in omega (arith, within, all_is, fewer)

pub stopped : (ready : ReadyData) (new : List (Option Outcome)) (jobs all those most kept : ℕ) → jobs ≡ length ready.keeper.board → all ≡ length (missing ready.keeper.board)
    → those ≡ length (due (portion_of ready) ready.keeper.board) → most ≡ least_of ready.budget those → most < all → kept_of new ≡ kept_of ready.keeper.board + most → kept ≡ kept_of new
    → IsStopped ready.budget (portion_of ready) ready.keeper.board kept jobs
stopped ready new jobs all those most kept jobs_is all_is those_is least fewer more count = record {
  short = short ready.budget (portion_of ready) ready.keeper.board all those most all_is those_is least fewer;
  kept_is = count ∙ more ∙ ap (λ (n : ℕ). kept_of ready.keeper.board + n) (most_is ready.budget (portion_of ready) ready.keeper.board those most those_is least);
  jobs_is = jobs_is;
}

-- ---- done

pub not_short : (budget : Option ℕ) (portion : ℕ → Bool) (board : List (Option Outcome)) (all those most : ℕ) → all ≡ length (missing board) → those ≡ length (due portion board) → most ≡ least_of budget those → all ≤ most
    → IsShort budget portion board → ⊥
not_short budget portion board all those most all_is those_is least whole left =
    let within = most_is budget portion board those most those_is least in absurd (omega (arith, within, all_is, whole, left))

pub none_left : (old new : List (Option Outcome)) (all most : ℕ) → length new ≡ length old → all ≡ length (missing old) → all ≤ most → kept_of new ≡ kept_of old + most → missing new ≡ []
none_left old new all most long all_is whole counted =
    let a = kept_missing old in let b = kept_missing new in none_missing new (omega (arith, a, b, long, all_is, whole, counted))

pub long_after : (k new : KeeperData) (batches : List (List Row)) → length k.board ≡ length k.list → new ≡ after_batches k batches → length new.board ≡ length k.board
long_after k new batches long is = ap (λ (x : KeeperData). length x.board) is ∙ length-filed k.list k.board (all_rows batches) long ∙ sym long

pub is_whole : (portion : ℕ → Bool) (k new : KeeperData) (most : ℕ) → k.list ≡ jobs_in k.case → length k.board ≡ length k.list → new ≡ after_batches k (first_batches portion k most) → missing new.board ≡ []
    → new.board ≡ board_filled (outcome k.case) (jobs_in k.case) k.board
is_whole portion k new most jobs long kept_is none =
    let board : new.board ≡ filed (jobs_in k.case) k.board (all_rows (first_batches portion k most)) =
    ap (λ (x : KeeperData). x.board) kept_is ∙ ap (λ (l : List Job). filed l k.board (all_rows (first_batches portion k most))) jobs in
    board
    ∙ filed_whole k.case (all_rows (first_batches portion k most)) (batches_right k.case (jobs_in k.case) k.page (take most (due portion k.board))) (jobs_in k.case) k.board (long ∙ ap length jobs) (sym (ap missing board) ∙ none)

pub whole_right : (k : KeeperData) (board : List (Option Outcome)) → board ≡ board_filled (outcome k.case) (jobs_in k.case) k.board → HasOutcomes (outcome k.case) (jobs_in k.case) k.board
    → HasOutcomes (outcome k.case) (jobs_in k.case) board
whole_right k board is has = rw is (filled_right (outcome k.case) (jobs_in k.case) k.board has)

-- the totals of the new board, in the words of the old one
module _ (k new : KeeperData) (totals : TotalsData) (same : new.case ≡ k.case) (is : new.board ≡ board_filled (outcome k.case) (jobs_in k.case) k.board) where
  pub whole_counts : (HasOutcomes (outcome new.case) (jobs_in new.case) new.board → (o : Outcome) → total_at totals o ≡ count new.case o)
      → HasOutcomes (outcome k.case) (jobs_in k.case) k.board → (o : Outcome) → total_at totals o ≡ count k.case o
  whole_counts counted has o =
      let here : HasOutcomes (outcome new.case) (jobs_in new.case) new.board = rw same (whole_right k new.board is has) in
      counted here o ∙ ap (λ (c : CaseData). count c o) same

  pub whole_sums : (o : Outcome) → total_at totals o ≡ board_total (jobs_in new.case) new.board o + cond (same_outcome NoEffect o) (dead (log new.case)) 0
      → total_at totals o ≡ board_total (jobs_in k.case) (board_filled (outcome k.case) (jobs_in k.case) k.board) o + cond (same_outcome NoEffect o) (dead (log k.case)) 0
  whole_sums o sums =
      sums
      ∙ ap (λ (c : CaseData). board_total (jobs_in c) new.board o + cond (same_outcome NoEffect o) (dead (log c)) 0) same
      ∙ ap (λ (b : List (Option Outcome)). board_total (jobs_in k.case) b o + cond (same_outcome NoEffect o) (dead (log k.case)) 0) is
