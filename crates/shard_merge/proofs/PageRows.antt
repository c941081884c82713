-- One page of the jobs that a keeper's board gains: its rows, and the board with them.
use Rattle.std.proofs.Common.{All, ◌≡◌, ◌≢◌, ℕ, ◌+◌, ◌*◌, ◌<◌, ◌≤◌, List, [], ◌∷◌, length, take, drop, Some, None, ap, sym, subst, ◌∙◌, arith, append-nil, length-take-le, take-append-drop}
use Rattle.std.specs.Prelude.{slice_get}
use Rattle.std.proofs.lemmas.List.Elements.{All-take, All-weaker}
use Rattle.std.proofs.lemmas.Option.{slice_get_within}
use Rattle.fs_outside.specs.Past.{Past, EachImage, LeavesOnly, content}
use Rattle.fs_outside.proofs.Moments.{weaker}
use Rattle.fs_model.specs.declared.sites.Job.{Job}
use Rattle.fs_model.specs.declared.outcomes.Row.{Row}
use Rattle.fs_model.specs.Job.{HasOutcomes, jobs_in}
use Rattle.fs_model.specs.Outcome.{outcome}
use Rattle.fs_model.specs.Verdict.{IsRight}
use Rattle.def_use.specs.Rows.{rows_of}
use Rattle.def_use.proofs.RowLists.{length-rows_of}
use Rattle.keep_format.specs.KeepFile.{rows_held}
use Rattle.result_keeper.specs.Acceptance.{HasRightOldRows}
use Rattle.result_keeper.specs.Batches.{after_batches}
use Rattle.result_keeper.specs.Blanks.{AreBlank}
use Rattle.result_keeper.specs.Boards.{AreFileable, IsOnce, filed}
use Rattle.result_keeper.specs.Keep.{HoldsMore, IsBeforeOrAfter, KeeperData}
use Rattle.result_keeper.proofs.Batches.{either_under, more_under}
use Rattle.result_keeper.proofs.Blanks.{AreFilled, blanks_filled, first_blank}
use Rattle.result_keeper.proofs.Once.{once_of}
use Rattle.shard_merge.specs.Gained.{gained_behind, gained_from, outcome_on, page_gained}
use Rattle.shard_merge.specs.Merged.{IsRightFor}
use Rattle.shard_merge.specs.Union.{BoardData}
use Rattle.shard_merge.proofs.Gains.{HasAt, gained_blank, gained_has, same_behind}
use Rattle.shard_merge.proofs.Rows.{rows_are_right}

-- what is known of a page: its rows are those of the next jobs that the keeper's board gains, and all that it gains then has
-- numbers from `next` on
pub record IsPage (list : List Job) (keeper : KeeperData) (other : BoardData) (from count next : ℕ) (rows : List Row) : Type 0 where
  pub once : IsOnce list
  pub listed : keeper.list ≡ list
  pub long : length keeper.board ≡ length list
  pub there : count ≤ length (gained_behind from keeper.board other)
  pub rows_are : rows ≡ rows_of (outcome_on list other) list (take count (gained_behind from keeper.board other))
  pub behind : gained_behind next keeper.board other ≡ drop count (gained_behind from keeper.board other)
  pub below : All (λ n. n < next) (take count (gained_behind from keeper.board other))

module _ (list : List Job) (keeper : KeeperData) (other : BoardData) (from count next : ℕ) (rows : List Row) (is : IsPage list keeper other from count next rows) where
  blank : AreBlank keeper.board (take count (gained_behind from keeper.board other))
  blank =
      let all = gained_behind from keeper.board other in
      first_blank (take count all) (drop count all) keeper.board (subst (AreBlank keeper.board) (sym (take-append-drop count all)) (gained_blank from keeper.board other))

  filled : AreFilled (outcome_on list other) list keeper.board (take count (gained_behind from keeper.board other))
  filled = blanks_filled (outcome_on list other) list is.once (take count (gained_behind from keeper.board other)) keeper.board is.long blank

  pub page_is : rows ≡ page_gained keeper other from count
  page_is = is.rows_are ∙ ap (λ (l : List Job). rows_of (outcome_on l other) l (take count (gained_behind from keeper.board other))) (sym is.listed)

  pub page_long : length rows ≡ count
  page_long =
      let all = gained_behind from keeper.board other in
      let within : All (λ n. n < length list) (take count all) =
      All-weaker (λ n. slice_get keeper.board n ≡ Some None) (λ n. n < length list) (λ n none. let lt = slice_get_within keeper.board n None none in omega (arith, lt, is.long)) (take count all) blank.blank in
      ap length is.rows_are ∙ length-rows_of (outcome_on list other) list (take count all) within ∙ length-take-le count all is.there

  pub page_fileable : AreFileable keeper.list keeper.board rows
  page_fileable =
      subst (λ (l : List Job). AreFileable l keeper.board rows) (sym is.listed) (subst (AreFileable list keeper.board) (sym is.rows_are) filled.fileable)

  pub page_right : IsRightFor keeper other → All (IsRight keeper.case) rows
  page_right right =
      let here : HasOutcomes (outcome keeper.case) list other = subst (λ (l : List Job). HasOutcomes (outcome keeper.case) l other) is.listed right in
      subst (All (IsRight keeper.case)) (sym is.rows_are)
      (rows_are_right keeper.case list other (take count (gained_behind from keeper.board other)) is.once here (All-take (HasAt other) count (gained_behind from keeper.board other) (gained_has from keeper.board other)))

  -- the others are still to be gained
  page_behind : gained_behind next (filed keeper.list keeper.board rows) other ≡ drop count (gained_behind from keeper.board other)
  page_behind =
      let new = filed list keeper.board (rows_of (outcome_on list other) list (take count (gained_behind from keeper.board other))) in
      let same : drop next new ≡ drop next keeper.board =
      same_behind next new keeper.board (λ m le. filled.same m (All-weaker (λ n. n < next) (λ n. n ≢ m) (λ n lt e. omega (arith, lt, le, e)) (take count (gained_behind from keeper.board other)) is.below)) in
      ap (λ (l : List Job). gained_behind next (filed l keeper.board rows) other) is.listed
      ∙ ap (λ (r : List Row). gained_behind next (filed list keeper.board r) other) is.rows_are
      ∙ ap (λ (b : BoardData). gained_from next b (drop next other)) same
      ∙ is.behind

  pub behind_kept : (new : KeeperData) → new ≡ record keeper { board = filed keeper.list keeper.board rows; gate = keeper.gate + (3 + 10 * length rows) }
      → gained_behind next new.board other ≡ drop count (gained_behind from keeper.board other)
  behind_kept new kept = ap (λ (k : KeeperData). gained_behind next k.board other) kept ∙ page_behind

  pub page_keeper : (new : KeeperData) → new ≡ record keeper { board = filed keeper.list keeper.board rows; gate = keeper.gate + (3 + 10 * length rows) }
      → new ≡ after_batches keeper (page_gained keeper other from count ∷ [])
  page_keeper new kept =
      kept
      ∙ ap (λ (r : List Row). let k : KeeperData = record keeper { board = filed keeper.list keeper.board r; gate = keeper.gate + (3 + 10 * length r) } in k) page_is
      ∙ ap (λ (r : List Row). let k : KeeperData = record keeper { board = filed keeper.list keeper.board r; gate = keeper.gate + (3 + 10 * length (page_gained keeper other from count)) } in k) (sym (append-nil (page_gained keeper other from count)))

  -- what an append of its rows leaves, where the other board is right
  pub page_added : (past : Past) (image : List ℕ) → HoldsMore (All (IsRight keeper.case) rows × EachImage past HasRightOldRows) (rows_held (content past)) rows image
      → HoldsMore (IsRightFor keeper other × EachImage past HasRightOldRows) (rows_held (content past)) (page_gained keeper other from count) image
  page_added past image more =
      subst (λ (r : List Row). HoldsMore (IsRightFor keeper other × EachImage past HasRightOldRows) (rows_held (content past)) r image) page_is
      (more_under (All (IsRight keeper.case) rows × EachImage past HasRightOldRows) (IsRightFor keeper other × EachImage past HasRightOldRows) (rows_held (content past)) rows image (λ both. (page_right both.0, both.1)) more)

  pub page_leaves : (past later : Past) → LeavesOnly past later (IsBeforeOrAfter (All (IsRight keeper.case) rows × EachImage past HasRightOldRows) (rows_held (content past)) rows)
      → LeavesOnly past later (IsBeforeOrAfter (IsRightFor keeper other × EachImage past HasRightOldRows) (rows_held (content past)) (page_gained keeper other from count))
  page_leaves past later leaves =
      subst (λ (r : List Row). LeavesOnly past later (IsBeforeOrAfter (IsRightFor keeper other × EachImage past HasRightOldRows) (rows_held (content past)) r)) page_is
      (weaker past later _ _
      (λ image either. either_under (All (IsRight keeper.case) rows × EachImage past HasRightOldRows) (IsRightFor keeper other × EachImage past HasRightOldRows) (rows_held (content past)) rows image (λ both. (page_right both.0, both.1)) either) leaves)

-- the same of what the code has: a board that is read, and rows behind a reference
pub as_page : (list : List Job) (keeper : KeeperData) (other : BoardData) (from count next : ℕ) (board : BoardData) (items rows : List Row) → board ≡ keeper.board → length keeper.board ≡ length keeper.list
    → keeper.list ≡ jobs_in keeper.case → keeper.list ≡ list → count ≤ length (gained_behind from keeper.board other)
    → items ≡ rows_of (outcome_on list other) list (take count (gained_behind from board other)) → gained_behind next board other ≡ drop count (gained_behind from board other)
    → All (λ n. n < next) (take count (gained_behind from board other)) → rows ≡ items → IsPage list keeper other from count next rows
as_page list keeper other from count next board items rows read long jobs listed there found behind below same = record {
  once = once_of keeper.case list (sym listed ∙ jobs);
  listed = listed;
  long = long ∙ ap length listed;
  there = there;
  rows_are = same ∙ found ∙ ap (λ (b : BoardData). rows_of (outcome_on list other) list (take count (gained_behind from b other))) read;
  behind = ap (λ (b : BoardData). gained_behind next b other) (sym read) ∙ behind ∙ ap (λ (b : BoardData). drop count (gained_behind from b other)) read;
  below = subst (λ (b : BoardData). All (λ n. n < next) (take count (gained_behind from b other))) read below;
}
