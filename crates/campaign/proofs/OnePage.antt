-- One page: what was appended, in the words of the campaign.
use Rattle.std.proofs.Common.{All, ◌≡◌, ℕ, ◌+◌, ◌*◌, ◌<◌, ◌≤◌, Bool, List, [], ◌∷◌, length, take, drop, Option, refl, ap, sym, subst, ◌∙◌, append-nil, length-take-le}
use Rattle.fs_model.specs.declared.sites.Job.{Job}
use Rattle.fs_model.specs.declared.outcomes.Outcome.{Outcome}
use Rattle.fs_model.specs.declared.outcomes.Row.{Row}
use Rattle.fs_model.specs.Job.{jobs_in}
use Rattle.fs_model.specs.Case.{CaseData}
use Rattle.fs_model.specs.Outcome.{outcome}
use Rattle.fs_model.specs.Verdict.{IsRight}
use Rattle.def_use.specs.Board.{kept_of}
use Rattle.result_keeper.specs.Boards.{filed, AreFileable}
use Rattle.result_keeper.specs.Keep.{KeeperData}
use Rattle.result_keeper.proofs.Blanks.{blanks_filled}
use Rattle.result_keeper.proofs.Once.{once_of}
use Rattle.experiment.specs.Jobs.{RoseAs}
use Rattle.experiment.proofs.Rises.{as_same}
use Rattle.def_use.specs.Rows.{rows_of}
use Rattle.def_use.proofs.RowLists.{length-rows_of, rows_right}
use Rattle.result_keeper.specs.Batches.{after_batches}
use Rattle.campaign.specs.Portions.{due, due_behind}
use Rattle.campaign.specs.Turn.{page_of}
use Rattle.worker_pool.specs.Steps.{steps_of_numbers}
use Rattle.campaign.proofs.Due.{none_before}
use Rattle.campaign.proofs.Turns.{IsThen, first_due_blank, due_then}

-- what is known of a page that was run: its keeper is of this case and has these jobs, and its rows are those of the
-- portion's next missing jobs
pub record IsPage (c : CaseData) (list : List Job) (portion : ℕ → Bool) (keeper : KeeperData) (from count : ℕ) (numbers : List ℕ) (rows : List Row) : Type 0 where
  pub case : keeper.case ≡ c
  pub listed : keeper.list ≡ list
  pub jobs : keeper.list ≡ jobs_in keeper.case
  pub long : length keeper.board ≡ length keeper.list
  pub there : count ≤ length (due portion keeper.board)
  pub front : due_behind portion from keeper.board ≡ due portion keeper.board
  pub numbers_are : numbers ≡ take count (due_behind portion from keeper.board)
  pub rows_are : rows ≡ rows_of (outcome c) list numbers
  pub within : All (λ n. n < length list) numbers

module _ (c : CaseData) (list : List Job) (portion : ℕ → Bool) (keeper : KeeperData) (from count : ℕ) (numbers : List ℕ) (rows : List Row) (is : IsPage c list portion keeper from count numbers rows) where
  next_ones : numbers ≡ take count (due portion keeper.board)
  next_ones = is.numbers_are ∙ ap (take count) is.front

  pub page_is : rows ≡ page_of portion keeper count
  page_is =
      is.rows_are
      ∙ ap (rows_of (outcome c) list) next_ones
      ∙ ap (λ (x : CaseData). rows_of (outcome x) list (take count (due portion keeper.board))) (sym is.case)
      ∙ ap (λ (l : List Job). rows_of (outcome keeper.case) l (take count (due portion keeper.board))) (sym is.listed ∙ is.jobs)

  pub page_long : length rows ≡ count
  page_long =
      ap length is.rows_are ∙ length-rows_of (outcome c) list numbers is.within ∙ ap length next_ones ∙ length-take-le count (due portion keeper.board) is.there

  in_list : page_of portion keeper count ≡ rows_of (outcome keeper.case) keeper.list (take count (due portion keeper.board))
  in_list = ap (λ (l : List Job). rows_of (outcome keeper.case) l (take count (due portion keeper.board))) (sym is.jobs)

  pub page_fileable : AreFileable keeper.list keeper.board rows
  page_fileable =
      subst (AreFileable keeper.list keeper.board) (sym (page_is ∙ in_list))
      (blanks_filled (outcome keeper.case) keeper.list (once_of keeper.case keeper.list is.jobs) (take count (due portion keeper.board)) keeper.board is.long (first_due_blank portion count keeper.board)).fileable

  then : IsThen portion keeper.board count (due portion keeper.board) (filed keeper.list keeper.board rows)
  then =
      subst (λ (r : List Row). IsThen portion keeper.board count (due portion keeper.board) (filed keeper.list keeper.board r)) (sym (page_is ∙ in_list))
      (due_then portion (outcome keeper.case) keeper.list (once_of keeper.case keeper.list is.jobs) count keeper.board is.long is.there)

  pub page_left : due portion (filed keeper.list keeper.board rows) ≡ drop count (due portion keeper.board)
  page_left = then.left

  pub page_counted : kept_of (filed keeper.list keeper.board rows) ≡ kept_of keeper.board + count
  page_counted = then.counted

  pub page_right : All (IsRight keeper.case) rows
  page_right = subst (All (IsRight keeper.case)) (sym page_is) (rows_right keeper.case (jobs_in keeper.case) (take count (due portion keeper.board)))

  pub page_behind : (next : ℕ) → due_behind portion next keeper.board ≡ drop count (due_behind portion from keeper.board) → due_behind portion next (filed keeper.list keeper.board rows) ≡ due portion (filed keeper.list keeper.board rows)
  page_behind next behind =
      none_before portion next keeper.board (filed keeper.list keeper.board rows) (page_left ∙ ap (drop count) (sym is.front) ∙ sym behind)

  pub page_keeper : (new : KeeperData) → new ≡ record keeper { board = filed keeper.list keeper.board rows; gate = keeper.gate + (3 + 10 * length rows) }
      → new ≡ after_batches keeper (page_of portion keeper count ∷ [])
  page_keeper new kept =
      kept
      ∙ ap (λ (r : List Row). let k : KeeperData = record keeper { board = filed keeper.list keeper.board r; gate = keeper.gate + (3 + 10 * length r) } in k) page_is
      ∙ ap (λ (r : List Row). let k : KeeperData = record keeper { board = filed keeper.list keeper.board r; gate = keeper.gate + (3 + 10 * length (page_of portion keeper count)) } in k) (sym (append-nil (page_of portion keeper count)))

  pub page_steps : (meets : Bool) (spacing before after : ℕ) → RoseAs meets (length numbers) before (steps_of_numbers c spacing list numbers) after
      → RoseAs meets count before (steps_of_numbers keeper.case spacing (jobs_in keeper.case) (take count (due portion keeper.board))) after
  page_steps meets spacing before after rose =
      let steps : steps_of_numbers c spacing list numbers ≡ steps_of_numbers keeper.case spacing (jobs_in keeper.case) (take count (due portion keeper.board)) =
      ap (steps_of_numbers c spacing list) next_ones
      ∙ ap (λ (x : CaseData). steps_of_numbers x spacing list (take count (due portion keeper.board))) (sym is.case)
      ∙ ap (λ (l : List Job). steps_of_numbers keeper.case spacing l (take count (due portion keeper.board))) (sym is.listed ∙ is.jobs) in
      let long : length numbers ≡ count = ap length next_ones ∙ length-take-le count (due portion keeper.board) is.there in
      as_same meets (length numbers) count before before _ _ after after rose long refl steps refl

-- the same of what the code has: its keeper before it was seen, a board that is read, and lists behind references
pub as_page : (c : CaseData) (list : List Job) (portion portion' : ℕ → Bool) (k k' : KeeperData) (from count : ℕ) (board : List (Option Outcome)) (items numbers : List ℕ) (kept rows : List Row)
    → portion ≡ portion' → k.case ≡ c → k.list ≡ list → k ≡ k' → board ≡ k.board → length k.board ≡ length k.list → k.list ≡ jobs_in k.case
    → count ≤ length (due portion' k'.board) → due_behind portion' from k'.board ≡ due portion' k'.board → items ≡ take count (due_behind portion from board) → All (λ n. n < length board) items
    → numbers ≡ items → kept ≡ rows_of (outcome c) list numbers → rows ≡ kept → IsPage c list portion k from count numbers rows
as_page c list portion portion' k k' from count board items numbers kept rows portions case listed same read long jobs there front found within numbers_is ran rows_is =
    let boards : k.board ≡ k'.board = ap (λ (x : KeeperData). x.board) same in
    let longs : length board ≡ length list = ap length read ∙ long ∙ ap length listed in
    record {
      case = case;
      listed = listed;
      jobs = jobs;
      long = long;
      there = rw (portions, boards) there;
      front = rw (portions, boards) front;
      numbers_are = numbers_is ∙ found ∙ ap (λ (b : List (Option Outcome)). take count (due_behind portion from b)) read;
      rows_are = rows_is ∙ ran;
      within = subst (All (λ n. n < length list)) (sym numbers_is) (subst (λ (m : ℕ). All (λ n. n < m) items) longs within);
    }
