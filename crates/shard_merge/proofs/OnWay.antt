-- A merge on its way: some batches are appended, and others are left.
use Rattle.std.proofs.Common.{◌≡◌, inl, inr, ⊎_elim, ℕ, ◌+◌, ◌-◌, ◌<◌, min, true, false, List, [], ◌∷◌, ◌++◌, length, take, drop, refl, ap, sym, subst, ◌∙◌, arith, append_assoc, length-append, length-drop}
use Rattle.std.proofs.lemmas.List.{drop_min, nil_from_length, take_at, take_min}
use Rattle.fs_outside.specs.Past.{Past, EachImage, LeavesOnly, content}
use Rattle.fs_outside.proofs.Moments.{ended, image_if_synced, joined, started, weaker}
use Rattle.fs_model.specs.declared.sites.Job.{Job}
use Rattle.fs_model.specs.declared.outcomes.Row.{Row}
use Rattle.def_use.specs.Rows.{rows_of}
use Rattle.keep_format.specs.KeepFile.{FileRow, rows_held}
use Rattle.result_keeper.specs.Acceptance.{HasRightOldRows, IsSound}
use Rattle.result_keeper.specs.Batches.{IsBroken, KeepsSome, after_batches, all_rows, appended_all, gate_behind}
use Rattle.result_keeper.specs.Blanks.{batches_for}
use Rattle.result_keeper.specs.Keep.{Gives, HasFile, HoldsMore, HoldsSame, IsBeforeOrAfter, KeeperData, RowStays, appended}
use Rattle.result_keeper.proofs.Batches.{after_more, appended_more, either_under, more_none, more_same, more_under, same_itself, with_more}
use Rattle.result_keeper.proofs.Cuts.{first_batch}
use Rattle.result_keeper.proofs.PartWay.{IsPartWay, IsAppended}
use Rattle.result_keeper.proofs.PartWay as keeper
use Rattle.shard_merge.specs.Gained.{batches_behind, batches_gained, gained, gained_behind, outcome_on, page_gained}
use Rattle.shard_merge.specs.Merged.{IsCutShort, IsRightFor, RecordsFirst, RecordsSome}
use Rattle.shard_merge.specs.Union.{BoardData}

-- ---- the batches that are left

-- the batches behind the next page
abbrev pub others_of : KeeperData → BoardData → ℕ → ℕ → List (List Row)
others_of now other from count = batches_for (outcome_on now.list other) now.list now.page (drop count (gained_behind from now.board other))

pub first_page : (now : KeeperData) (other : BoardData) (from left count : ℕ) → 0 < now.page → 0 < left → left ≡ length (gained_behind from now.board other) → count ≡ min left now.page
    → batches_behind now other from ≡ page_gained now other from count ∷ others_of now other from count
first_page now other from left count some more left_is count_is =
    let all = gained_behind from now.board other in
    let outcomes = outcome_on now.list other in
    let p = now.page in
    let least : min p (length all) ≡ count = omega (arith, left_is, count_is) in
    first_batch outcomes now.list p some all (omega (arith, left_is, more))
    ∙ ap (λ (l : List ℕ). rows_of outcomes now.list l ∷ batches_for outcomes now.list p (drop p all)) (sym (take_min p all) ∙ ap (λ (k : ℕ). take k all) least)
    ∙ ap (λ (l : List ℕ). page_gained now other from count ∷ batches_for outcomes now.list p l) (sym (drop_min p all) ∙ ap (λ (k : ℕ). drop k all) least)

part : {A : Type 0} (f : KeeperData → A) {x y : KeeperData} → x ≡ y → f x ≡ f y
part f e = ap f e

next_batches : (now new : KeeperData) (other : BoardData) (from left count next : ℕ) → 0 < now.page → 0 < left → left ≡ length (gained_behind from now.board other) → count ≡ min left now.page
    → new ≡ after_batches now (page_gained now other from count ∷ []) → gained_behind next new.board other ≡ drop count (gained_behind from now.board other)
    → batches_behind now other from ≡ page_gained now other from count ∷ batches_behind new other next
next_batches now new other from left count next some more left_is count_is kept_is behind =
    let lists : new.list ≡ now.list = part (λ (k : KeeperData). k.list) kept_is in
    let pages : new.page ≡ now.page = part (λ (k : KeeperData). k.page) kept_is in
    first_page now other from left count some more left_is count_is
    ∙ ap (λ (l : List ℕ). page_gained now other from count ∷ batches_for (outcome_on now.list other) now.list now.page l) (sym behind)
    ∙ ap (λ (p : ℕ). page_gained now other from count ∷ batches_for (outcome_on now.list other) now.list p (gained_behind next new.board other)) (sym pages)
    ∙ ap (λ (l : List Job). page_gained now other from count ∷ batches_for (outcome_on l other) l new.page (gained_behind next new.board other)) (sym lists)

-- ---- what an append of a page came to

pub record IsPageAppended (tells right : Type 0) (past later : Past) (now new : KeeperData) (rows : List Row) : Type 0 where
  pub keeper : new ≡ after_batches now (rows ∷ [])
  pub file : tells → HasFile new later
  pub bytes : tells → content later ≡ appended (content past) now.gate rows
  pub added : tells → HoldsMore (right × EachImage past HasRightOldRows) (rows_held (content past)) rows (content later)
  pub any_moment : tells → LeavesOnly past later (IsBeforeOrAfter (right × EachImage past HasRightOldRows) (rows_held (content past)) rows)
  pub sound : tells → right → EachImage past IsSound → LeavesOnly past later IsSound
  pub old_rows : tells → right → EachImage past HasRightOldRows → LeavesOnly past later HasRightOldRows
  pub rows_stay : tells → right → (row : FileRow) → RowStays past later row

-- where the rows are right, they are kept wherever the old rows of the file were
either_right : (right : Type 0) (past later : Past) (rows : List Row) → right
    → LeavesOnly past later (IsBeforeOrAfter (right × EachImage past HasRightOldRows) (rows_held (content past)) rows) → LeavesOnly past later (IsBeforeOrAfter (EachImage past HasRightOldRows) (rows_held (content past)) rows)
either_right right past later rows is any =
    weaker past later _ _ (λ image either. either_under (right × EachImage past HasRightOldRows) (EachImage past HasRightOldRows) (rows_held (content past)) rows image (λ each. (is, each)) either) any

-- the same in the words of a keeper on its way, where one premise gives the other
appended_right : (tells right now_right : Type 0) (past later : Past) (now new : KeeperData) (rows : List Row) → (right → now_right) → IsPageAppended tells now_right past later now new rows
    → IsAppended (tells × right) past later now new rows
appended_right tells right now_right past later now new rows to is = record {
  keeper = is.keeper;
  file = λ both. is.file both.0;
  bytes = λ both. is.bytes both.0;
  added = λ both. more_under (now_right × EachImage past HasRightOldRows) (EachImage past HasRightOldRows) (rows_held (content past)) rows (content later) (λ each. (to both.1, each)) (is.added both.0);
  any_moment = λ both. either_right now_right past later rows (to both.1) (is.any_moment both.0);
  sound = λ both. is.sound both.0 (to both.1);
  old_rows = λ both. is.old_rows both.0 (to both.1);
  rows_stay = λ both. is.rows_stay both.0 (to both.1);
}

-- ---- the way

-- Of all batches the last ones are left; those before are appended. What holds whether the rows are right or not stands
-- beside what holds where they are.
pub record IsOnWay (tells : Type 0) (before now : Past) (faults faults' : ℕ) (old new : KeeperData) (other : BoardData) (left from : ℕ) : Type 0 where
  pub way : IsPartWay (tells × IsRightFor old other) before now old new (batches_gained old other) (batches_behind new other from)
  pub left_is : left ≡ length (gained_behind from new.board other)
  pub done : List (List Row)
  pub whole : batches_gained old other ≡ done ++ batches_behind new other from
  pub keeper : new ≡ after_batches old done
  pub file : tells → HasFile new now
  pub bytes : tells → content now ≡ appended_all (content before) old.gate done
  pub records : tells → HoldsMore ⊥ (rows_held (content before)) (all_rows done) (content now)
  pub leaves : tells → LeavesOnly before now (RecordsSome before (batches_gained old other))
  pub no_fault : faults' ≡ faults

pub records_none : (past : Past) (k : KeeperData) (batches : List (List Row)) → HasFile k past → EachImage past (RecordsSome past batches)
records_none past k batches file image now =
    let same : image ≡ content past = image_if_synced past image file.synced now in
    record { count = 0; within = omega arith; records = (more_none ⊥ (rows_held (content past)) image (subst (HoldsSame (rows_held (content past))) (sym same) (same_itself (content past)))).records }

pub at_start : (tells : Type 0) (past : Past) (faults : ℕ) (old : KeeperData) (other : BoardData) (all : ℕ) → length old.board ≡ length old.list → old.healthy ≡ true → (tells → HasFile old past)
    → all ≡ length (gained old.board other) → IsOnWay tells past past faults faults old old other all 0
at_start tells past faults old other all long healthy file all_is = record {
  way = keeper.at_start (tells × IsRightFor old other) past old (batches_gained old other) long healthy (λ both. file both.0);
  left_is = all_is;
  done = [];
  whole = refl;
  keeper = keeper.nothing_done old long;
  file = file;
  bytes = λ told. refl;
  records = λ told. more_none ⊥ (rows_held (content past)) (content past) (same_itself (content past));
  leaves = λ told. started past (RecordsSome past (batches_gained old other)) (records_none past old (batches_gained old other) (file told));
  no_fault = refl;
}

-- ---- a page more

no_premise : (A : Type 0) → ⊥ → A
no_premise A none = absurd none

-- what is left at any moment
pub record IsLeft (tells : Type 0) (old : KeeperData) (other : BoardData) (before now : Past) : Type 0 where
  pub any_moment : tells → LeavesOnly before now (RecordsSome before (batches_gained old other))
  pub any_moment_kept : tells → IsRightFor old other → LeavesOnly before now (KeepsSome before (batches_gained old other))
  pub sound : tells → IsRightFor old other → EachImage before IsSound → LeavesOnly before now IsSound
  pub old_rows : tells → IsRightFor old other → EachImage before HasRightOldRows → LeavesOnly before now HasRightOldRows
  pub rows_stay : tells → IsRightFor old other → (row : FileRow) → RowStays before now row

-- the next page, whether it is appended or the disk fails
module _ (tells : Type 0) (before past later : Past) (faults faults' : ℕ) (old now : KeeperData) (other : BoardData) (left from count p : ℕ)
    (is : IsOnWay tells before past faults faults' old now other left from) (page : old.page ≡ p) (some_page : 0 < p) (more : 0 < left) (least : count ≡ min left p) where
  same_page : now.page ≡ p
  same_page = part (λ (k : KeeperData). k.page) is.keeper ∙ page

  some : 0 < now.page
  some = omega (arith, same_page, some_page)

  count_is : count ≡ min left now.page
  count_is = least ∙ ap (min left) (sym same_page)

  to : IsRightFor old other → IsRightFor now other
  to right = subst (λ (k : KeeperData). IsRightFor k other) (sym is.keeper) right

  whole_is : batches_gained old other ≡ is.done ++ page_gained now other from count ∷ others_of now other from count
  whole_is = is.whole ∙ ap (λ (l : List (List Row)). is.done ++ l) (first_page now other from left count some more is.left_is count_is)

  -- so many batches there are
  enough : length (batches_gained old other) ≡ length is.done + length (page_gained now other from count ∷ others_of now other from count)
  enough = ap length whole_is ∙ length-append is.done (page_gained now other from count ∷ others_of now other from count)

  first_done : take (length is.done) (batches_gained old other) ≡ is.done
  first_done = ap (take (length is.done)) whole_is ∙ take_at is.done (page_gained now other from count ∷ others_of now other from count) (length is.done) refl

  first_more : take (length is.done + 1) (batches_gained old other) ≡ is.done ++ page_gained now other from count ∷ []
  first_more =
      ap (take (length is.done + 1)) (whole_is ∙ sym (append_assoc is.done (page_gained now other from count ∷ []) (others_of now other from count)))
      ∙ take_at (is.done ++ page_gained now other from count ∷ []) (others_of now other from count) (length is.done + 1) (length-append is.done (page_gained now other from count ∷ []))

  -- an image without the next batch, and one with it
  records_done : tells → (image : List ℕ) → HoldsSame (rows_held (content past)) image → RecordsFirst before (batches_gained old other) (length is.done) image
  records_done told image same =
      (subst (λ (b : List (List Row)). HoldsMore ⊥ (rows_held (content before)) (all_rows b) image) (sym first_done)
      (more_same ⊥ (rows_held (content before)) (content past) image (all_rows is.done) (is.records told) same)).records

  records_more : tells → (image : List ℕ) → HoldsMore (IsRightFor now other × EachImage past HasRightOldRows) (rows_held (content past)) (page_gained now other from count) image
      → RecordsFirst before (batches_gained old other) (length is.done + 1) image
  records_more told image longer =
      (subst (λ (b : List (List Row)). HoldsMore ⊥ (rows_held (content before)) (all_rows b) image) (sym first_more)
      (with_more ⊥ (IsRightFor now other × EachImage past HasRightOldRows) (rows_held (content before)) (content past) image is.done (page_gained now other from count) (is.records told)
      (no_premise (IsRightFor now other × EachImage past HasRightOldRows)) longer)).records

  records_either : tells → (image : List ℕ) → IsBeforeOrAfter (IsRightFor now other × EachImage past HasRightOldRows) (rows_held (content past)) (page_gained now other from count) image
      → RecordsSome before (batches_gained old other) image
  records_either told image (inl same) = record { count = length is.done; within = let l = enough in omega (arith, l); records = records_done told image same }
  records_either told image (inr longer) = record { count = length is.done + 1; within = let l = enough in omega (arith, l); records = records_more told image longer }

  next_leaves : (tells → LeavesOnly past later (IsBeforeOrAfter (IsRightFor now other × EachImage past HasRightOldRows) (rows_held (content past)) (page_gained now other from count)))
      → tells → LeavesOnly before later (RecordsSome before (batches_gained old other))
  next_leaves any told =
      joined before past later (RecordsSome before (batches_gained old other)) (is.leaves told) (weaker past later _ (RecordsSome before (batches_gained old other)) (records_either told) (any told))

  -- it was appended
  pub one_more : (faults'' next : ℕ) (new : KeeperData) → faults'' ≡ faults' → IsPageAppended tells (IsRightFor now other) past later now new (page_gained now other from count)
      → gained_behind next new.board other ≡ drop count (gained_behind from now.board other) → IsOnWay tells before later faults faults'' old new other (left - count) next
  one_more faults'' next new fine kept behind =
      let batches = next_batches now new other from left count next some more is.left_is count_is kept.keeper behind in
      let gate : now.gate ≡ gate_behind old.gate is.done = part (λ (k : KeeperData). k.gate) is.keeper in
      let rows = page_gained now other from count in
      record {
        way = keeper.one_more (tells × IsRightFor old other) before past later old now (batches_gained old other) (batches_behind now other from) (batches_behind new other next) rows is.way batches new (appended_right tells (IsRightFor old other) (IsRightFor now other) past later now new rows to kept);
        left_is = let l = ap length behind ∙ length-drop count (gained_behind from now.board other) in let e = is.left_is in omega (arith, l, e);
        done = is.done ++ rows ∷ [];
        whole = is.whole ∙ ap (λ (l : List (List Row)). is.done ++ l) batches ∙ sym (append_assoc is.done (rows ∷ []) (batches_behind new other next));
        keeper = after_more old now new is.done rows is.keeper kept.keeper;
        file = kept.file;
        bytes = λ told.
            kept.bytes told
            ∙ ap (λ (f : List ℕ). appended f now.gate rows) (is.bytes told)
            ∙ ap (λ (g : ℕ). appended (appended_all (content before) old.gate is.done) g rows) gate
            ∙ sym (appended_more (content before) old.gate is.done rows);
        records = λ told. with_more ⊥ (IsRightFor now other × EachImage past HasRightOldRows) (rows_held (content before)) (content past) (content later) is.done rows (is.records told) (no_premise (IsRightFor now other × EachImage past HasRightOldRows)) (kept.added told);
        leaves = next_leaves kept.any_moment;
        no_fault = fine ∙ is.no_fault;
      }

  -- the disk failed
  way_on : (tells × IsRightFor old other → LeavesOnly past later (IsBeforeOrAfter (EachImage past HasRightOldRows) (rows_held (content past)) (page_gained now other from count)))
      → tells × IsRightFor old other → LeavesOnly before later (KeepsSome before (batches_gained old other))
  way_on =
      keeper.next_leaves (tells × IsRightFor old other) before past later old now (batches_gained old other) (batches_behind now other from) (others_of now other from count)
      (page_gained now other from count) is.way (first_page now other from left count some more is.left_is count_is)

  pub cut_recorded : (new : KeeperData) → new ≡ record now { healthy = false } → (tells → LeavesOnly past later (IsBeforeOrAfter (IsRightFor now other × EachImage past HasRightOldRows) (rows_held (content past)) (page_gained now other from count)))
      → IsCutShort tells before later old (batches_gained old other) new
  cut_recorded new broken any = record {
    count = length is.done;
    fewer = let l = enough in omega (arith, l);
    is =
        broken
        ∙ ap (λ (k : KeeperData). let r : KeeperData = record k { healthy = false } in r) is.keeper
        ∙ ap (λ (b : List (List Row)). let r : KeeperData = record (after_batches old b) { healthy = false } in r) (sym first_done);
    records = λ told image left.
        ⊎_elim
        (λ (same : HoldsSame (rows_held (content past)) image). inl (records_done told image same))
        (λ (longer : HoldsMore (IsRightFor now other × EachImage past HasRightOldRows) (rows_held (content past)) (page_gained now other from count) image). inr (records_more told image longer))
        (ended past later (IsBeforeOrAfter (IsRightFor now other × EachImage past HasRightOldRows) (rows_held (content past)) (page_gained now other from count)) (any told) image left);
  }

  pub cut_short : (new : KeeperData) → new ≡ record now { healthy = false } → (tells → LeavesOnly past later (IsBeforeOrAfter (IsRightFor now other × EachImage past HasRightOldRows) (rows_held (content past)) (page_gained now other from count)))
      → IsBroken (tells × IsRightFor old other) before later old (batches_gained old other) new
  cut_short new broken any =
      keeper.next_broken (tells × IsRightFor old other) before past later old now (batches_gained old other) (batches_behind now other from) (others_of now other from count)
      (page_gained now other from count) is.way (first_page now other from left count some more is.left_is count_is) new broken
      (λ both. either_right (IsRightFor now other) past later (page_gained now other from count) (to both.1) (any both.0))

  pub cut_left : (tells → LeavesOnly past later (IsBeforeOrAfter (IsRightFor now other × EachImage past HasRightOldRows) (rows_held (content past)) (page_gained now other from count)))
      → (tells → IsRightFor now other → EachImage past IsSound → LeavesOnly past later IsSound) → (tells → IsRightFor now other → EachImage past HasRightOldRows → LeavesOnly past later HasRightOldRows)
      → (tells → IsRightFor now other → (row : FileRow) → RowStays past later row)
      → IsLeft tells old other before later
  cut_left any sound still stays = record {
    any_moment = next_leaves any;
    any_moment_kept = λ told right. way_on (λ both. either_right (IsRightFor now other) past later (page_gained now other from count) (to both.1) (any both.0)) (told, right);
    sound = λ told right.
        keeper.next_sound (tells × IsRightFor old other) before past later old now (batches_gained old other) (batches_behind now other from) (others_of now other from count)
        (page_gained now other from count) is.way (first_page now other from left count some more is.left_is count_is) (λ both. sound both.0 (to both.1)) (told, right);
    old_rows = λ told right.
        keeper.next_old (tells × IsRightFor old other) before past later old now (batches_gained old other) (batches_behind now other from) (others_of now other from count)
        (page_gained now other from count) is.way (first_page now other from left count some more is.left_is count_is) (λ both. still both.0 (to both.1)) (told, right);
    rows_stay = λ told right.
        keeper.next_stays (tells × IsRightFor old other) before past later old now (batches_gained old other) (batches_behind now other from) (others_of now other from count)
        (page_gained now other from count) is.way (first_page now other from left count some more is.left_is count_is) (λ both. stays both.0 (to both.1)) (told, right);
  }

-- ---- at the end

no_batches : (keeper : KeeperData) (other : BoardData) (from : ℕ) → 0 ≡ length (gained_behind from keeper.board other) → batches_behind keeper other from ≡ []
no_batches keeper other from none =
    ap (batches_for (outcome_on keeper.list other) keeper.list keeper.page) (nil_from_length (gained_behind from keeper.board other) (sym none))

-- where none is left, the file whose old rows were right and that gave the board gives it now
pub end_gives : (tells : Type 0) (before now : Past) (faults faults' : ℕ) (old new : KeeperData) (other : BoardData) (left from : ℕ) → left ≡ 0 → IsOnWay tells before now faults faults' old new other left from
    → (tells → HasFile old before) → tells → IsRightFor old other → EachImage before HasRightOldRows → Gives old.case old.board (content before) → EachImage now (Gives new.case new.board)
end_gives tells before now faults faults' old new other left from none is file told right old_rows gives =
    let way : IsPartWay (tells × IsRightFor old other) before now old new (batches_gained old other) [] =
    subst (IsPartWay (tells × IsRightFor old other) before now old new (batches_gained old other)) (no_batches new other from (sym none ∙ is.left_is)) is.way in
    keeper.end_gives (tells × IsRightFor old other) before now old new (batches_gained old other) way (told, right) old_rows (file told) gives
