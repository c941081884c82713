-- A keeper on its way: some batches are appended, and others are left.
use Rattle.std.proofs.Common.{◌≡◌, inl, inr, ⊎_elim, ℕ, true, false, List, [], ◌∷◌, ◌++◌, length, take, Option, refl, ap, sym, subst, ◌∙◌, arith, append_assoc, append-nil, length-append}
use Rattle.std.proofs.lemmas.List.{take_at}
use Rattle.fs_outside.specs.Past.{Past, content, EachImage, LeavesOnly}
use Rattle.fs_outside.proofs.Moments.{started, joined, weaker, ended, image_if_synced}
use Rattle.fs_model.specs.declared.outcomes.Outcome.{Outcome}
use Rattle.fs_model.specs.declared.outcomes.Row.{Row}
use Rattle.fs_model.specs.Case.{CaseData}
use Rattle.keep_format.specs.KeepFile.{FileRow, rows_held}
use Rattle.result_keeper.specs.Acceptance.{HasRightOldRows, IsSound}
use Rattle.result_keeper.specs.Keep.{Gives, HoldsMore, HoldsSame, IsSettled, KeeperData, HasFile, RowStays, IsBeforeOrAfter, appended}
use Rattle.result_keeper.specs.Batches.{all_rows, gate_behind, appended_all, after_batches, IsBroken, KeepsSome}
use Rattle.result_keeper.proofs.Filing.{filed_nothing}
use Rattle.result_keeper.proofs.Batches.{appended_more, after_more, first_after, first_before, more_none, same_itself, with_more, some_either}
use Rattle.result_keeper.proofs.Gives.{gives_more, settled_gives}
use Rattle.result_keeper.proofs.Stays.{stays_at_first, stays_longer}

-- of all these batches, the last ones are left; those before are appended
pub record IsPartWay (tells : Type 0) (before now : Past) (old new : KeeperData) (all left : List (List Row)) : Type 0 where
  pub done : List (List Row)
  pub whole : all ≡ done ++ left
  pub keeper : new ≡ after_batches old done
  pub healthy : new.healthy ≡ true
  pub file : tells → HasFile new now
  pub bytes : tells → content now ≡ appended_all (content before) old.gate done
  pub keeps : tells → HoldsMore (EachImage before HasRightOldRows) (rows_held (content before)) (all_rows done) (content now)
  pub leaves : tells → LeavesOnly before now (KeepsSome before all)
  pub sound : tells → EachImage before IsSound → LeavesOnly before now IsSound
  pub old_rows : tells → EachImage before HasRightOldRows → LeavesOnly before now HasRightOldRows
  pub rows_stay : tells → (row : FileRow) → RowStays before now row

-- ---- at the start

pub nothing_done : (keeper : KeeperData) → length keeper.board ≡ length keeper.list → keeper ≡ after_batches keeper []
nothing_done keeper long = ap (λ (b : List (Option Outcome)). let k : KeeperData = record keeper { board = b } in k) (sym (filed_nothing keeper.list keeper.board long))

keeps_nothing : (past : Past) → HoldsMore (EachImage past HasRightOldRows) (rows_held (content past)) [] (content past)
keeps_nothing past = more_none (EachImage past HasRightOldRows) (rows_held (content past)) (content past) (same_itself (content past))

keeps_none : (past : Past) (keeper : KeeperData) (batches : List (List Row)) → HasFile keeper past → EachImage past (KeepsSome past batches)
keeps_none past keeper batches file image now =
    record { count = 0; within = omega arith; keeps = subst (HoldsMore (EachImage past HasRightOldRows) (rows_held (content past)) []) (sym (image_if_synced past image file.synced now)) (keeps_nothing past) }

pub at_start : (tells : Type 0) (past : Past) (keeper : KeeperData) (all : List (List Row)) → length keeper.board ≡ length keeper.list → keeper.healthy ≡ true → (tells → HasFile keeper past)
    → IsPartWay tells past past keeper keeper all all
at_start tells past keeper all long healthy file = record {
  done = [];
  whole = refl;
  keeper = nothing_done keeper long;
  healthy = healthy;
  file = file;
  bytes = λ told. refl;
  keeps = λ told. keeps_nothing past;
  leaves = λ told. started past (KeepsSome past all) (keeps_none past keeper all (file told));
  sound = λ told each. started past IsSound each;
  old_rows = λ told each. started past HasRightOldRows each;
  rows_stay = λ told. stays_at_first past;
}

-- ---- a batch more

part : {A : Type 0} (f : KeeperData → A) {x y : KeeperData} → x ≡ y → f x ≡ f y
part f e = ap f e

-- what an append of a batch came to, where the disk did not fail
pub record IsAppended (tells : Type 0) (past later : Past) (now new : KeeperData) (rows : List Row) : Type 0 where
  pub keeper : new ≡ after_batches now (rows ∷ [])
  pub file : tells → HasFile new later
  pub bytes : tells → content later ≡ appended (content past) now.gate rows
  pub added : tells → HoldsMore (EachImage past HasRightOldRows) (rows_held (content past)) rows (content later)
  pub any_moment : tells → LeavesOnly past later (IsBeforeOrAfter (EachImage past HasRightOldRows) (rows_held (content past)) rows)
  pub sound : tells → EachImage past IsSound → LeavesOnly past later IsSound
  pub old_rows : tells → EachImage past HasRightOldRows → LeavesOnly past later HasRightOldRows
  pub rows_stay : tells → (row : FileRow) → RowStays past later row

-- what the next batch leaves at any moment, whether it was appended or the disk failed
module _ (tells : Type 0) (before past later : Past) (old now : KeeperData) (all left rest : List (List Row)) (rows : List Row) (is : IsPartWay tells before past old now all left) (next : left ≡ rows ∷ rest) where
  pub with_next : all ≡ is.done ++ rows ∷ rest
  with_next = is.whole ∙ ap (λ (l : List (List Row)). is.done ++ l) next

  -- old rows that are right at first are right now
  old_now : tells → EachImage before HasRightOldRows → EachImage past HasRightOldRows
  old_now told each = ended before past HasRightOldRows (is.old_rows told each)

  pub next_leaves : (tells → LeavesOnly past later (IsBeforeOrAfter (EachImage past HasRightOldRows) (rows_held (content past)) rows)) → tells → LeavesOnly before later (KeepsSome before all)
  next_leaves any told =
      joined before past later (KeepsSome before all) (is.leaves told)
      (weaker past later (IsBeforeOrAfter (EachImage past HasRightOldRows) (rows_held (content past)) rows) (KeepsSome before all)
      (some_either before (content past) is.done rest all rows with_next (is.keeps told) (EachImage past HasRightOldRows) (old_now told)) (any told))

  -- what is so at first and stays so over the batch is so after it
  next_so : (P : List ℕ → Type 0) → (EachImage before P → LeavesOnly before past P) → (EachImage past P → LeavesOnly past later P) → EachImage before P → LeavesOnly before later P
  next_so P first second each = let so_far = first each in joined before past later P so_far (second (ended before past P so_far))

  pub next_sound : (tells → EachImage past IsSound → LeavesOnly past later IsSound) → tells → EachImage before IsSound → LeavesOnly before later IsSound
  next_sound sound told = next_so IsSound (is.sound told) (sound told)

  pub next_old : (tells → EachImage past HasRightOldRows → LeavesOnly past later HasRightOldRows) → tells → EachImage before HasRightOldRows → LeavesOnly before later HasRightOldRows
  next_old old told = next_so HasRightOldRows (is.old_rows told) (old told)

  pub next_stays : (tells → (row : FileRow) → RowStays past later row) → tells → (row : FileRow) → RowStays before later row
  next_stays stays told row = stays_longer before past later row (is.old_rows told) (is.rows_stay told row) (stays told row)

  -- the disk failed
  pub next_broken : (new : KeeperData) → new ≡ record now { healthy = false } → (tells → LeavesOnly past later (IsBeforeOrAfter (EachImage past HasRightOldRows) (rows_held (content past)) rows)) → IsBroken tells before later old all new
  next_broken new broken any =
      let l = ap length with_next ∙ length-append is.done (rows ∷ rest) in
      let front : take (length is.done) all ≡ is.done = ap (take (length is.done)) with_next ∙ take_at is.done (rows ∷ rest) (length is.done) refl in
      record {
        count = length is.done;
        fewer = omega (arith, l);
        is =
            broken
            ∙ ap (λ (k : KeeperData). let r : KeeperData = record k { healthy = false } in r) is.keeper
            ∙ ap (λ (b : List (List Row)). let r : KeeperData = record (after_batches old b) { healthy = false } in r) (sym front);
        images = λ told image left.
            ⊎_elim
            (λ (same : HoldsSame (rows_held (content past)) image). inl (first_before before (content past) is.done rest all rows with_next (is.keeps told) (EachImage past HasRightOldRows) (old_now told) image same))
            (λ (longer : HoldsMore (EachImage past HasRightOldRows) (rows_held (content past)) rows image). inr (first_after before (content past) is.done rest all rows with_next (is.keeps told) (EachImage past HasRightOldRows) (old_now told) image longer))
            (ended past later (IsBeforeOrAfter (EachImage past HasRightOldRows) (rows_held (content past)) rows) (any told) image left);
      }

  -- it was appended
  pub one_more : (new : KeeperData) → IsAppended tells past later now new rows → IsPartWay tells before later old new all rest
  one_more new append =
      let gate : now.gate ≡ gate_behind old.gate is.done = part (λ (k : KeeperData). k.gate) is.keeper in
      record {
        done = is.done ++ rows ∷ [];
        whole = with_next ∙ sym (append_assoc is.done (rows ∷ []) rest);
        keeper = after_more old now new is.done rows is.keeper append.keeper;
        healthy = part (λ (k : KeeperData). k.healthy) append.keeper ∙ is.healthy;
        file = append.file;
        bytes = λ told.
            append.bytes told
            ∙ ap (λ (f : List ℕ). appended f now.gate rows) (is.bytes told)
            ∙ ap (λ (g : ℕ). appended (appended_all (content before) old.gate is.done) g rows) gate
            ∙ sym (appended_more (content before) old.gate is.done rows);
        keeps = λ told. with_more (EachImage before HasRightOldRows) (EachImage past HasRightOldRows) (rows_held (content before)) (content past) (content later) is.done rows (is.keeps told) (old_now told) (append.added told);
        leaves = next_leaves append.any_moment;
        sound = next_sound append.sound;
        old_rows = next_old append.old_rows;
        rows_stay = next_stays append.rows_stay;
      }

-- ---- at the end

module _ (tells : Type 0) (before now : Past) (old new : KeeperData) (all : List (List Row)) (is : IsPartWay tells before now old new all []) where
  all_done : is.done ≡ all
  all_done = sym (is.whole ∙ append-nil is.done)

  pub end_keeper : new ≡ after_batches old all
  end_keeper = is.keeper ∙ ap (after_batches old) all_done

  pub end_bytes : tells → content now ≡ appended_all (content before) old.gate all
  end_bytes told = is.bytes told ∙ ap (appended_all (content before) old.gate) all_done

  -- where the old rows of the file are right, and it gave the board at first, each crash leaves a file that gives it now
  pub end_gives : tells → EachImage before HasRightOldRows → HasFile old before → Gives old.case old.board (content before) → EachImage now (Gives new.case new.board)
  end_gives told right file gives =
      let settled : IsSettled old.case new.board new.gate now = subst (λ (c : CaseData). IsSettled c new.board new.gate now) same_case (is.file told) in
      subst (λ (c : CaseData). EachImage now (Gives c new.board)) (sym same_case)
      (settled_gives old.case new.board new.gate now settled
      (gives_more (content before) (content now) old.case old.board new.board old.gate new.gate (all_rows is.done) file.file settled.file ((is.keeps told).keeps right) gives))
    where
      same_case : new.case ≡ old.case
      same_case = part (λ (k : KeeperData). k.case) is.keeper
