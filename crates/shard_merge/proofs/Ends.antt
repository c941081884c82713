-- How a merge ends.
use Rattle.std.proofs.Common.{◌≡◌, ℕ, ◌<◌, true, length, Ok, Err, refl, ap, sym, subst, ◌∙◌}
use Rattle.fs_outside.specs.Faults.{Rises}
use Rattle.fs_outside.specs.Past.{Past, EachImage, content}
use Rattle.fs_outside.proofs.Moments.{started}
use Rattle.fs_model.specs.declared.outcomes.Outcome.{Outcome}
use Rattle.fs_model.specs.Job.{jobs_in}
use Rattle.fs_model.specs.Outcome.{outcome}
use Rattle.result_keeper.specs.Acceptance.{HasRightOldRows}
use Rattle.result_keeper.specs.Batches.{IsBroken, after_batches, all_rows, appended_all}
use Rattle.result_keeper.specs.Boards.{AreFileable, IsOnce, filed}
use Rattle.result_keeper.specs.Keep.{Gives, HasFile, KeeperData}
use Rattle.result_keeper.proofs.Blanks.{blanks_filled}
use Rattle.result_keeper.proofs.Cuts.{all_rows_for}
use Rattle.result_keeper.proofs.Gives.{settled_gives}
use Rattle.result_keeper.proofs.Once.{once_of}
use Rattle.result_keeper.proofs.PartWay.{IsPartWay}
use Rattle.result_keeper.proofs.PartWay as keeper
use Rattle.shard_merge.specs.Gained.{batches_gained, gained, outcome_on}
use Rattle.shard_merge.specs.Laws.{IsRightBoard}
use Rattle.shard_merge.specs.Merged.{IsCutShort, IsMerged, IsRightFor, RecordsSome}
use Rattle.shard_merge.specs.Union.{Agree, BoardData, IsApart, IsFirstApart, union}
use Rattle.shard_merge.specs.declared.merging.MergeRefusal.TheVariants.{Disagree, DiskFault}
use Rattle.shard_merge.proofs.Gains.{gained_blank}
use Rattle.shard_merge.proofs.OnWay.{IsLeft, records_none}
use Rattle.shard_merge.proofs.Rows.{filed_gained}
use Rattle.shard_merge.proofs.Unions.{agree}

-- what a merge is called with
pub record IsGiven (tells : Type 0) (old : KeeperData) (other : BoardData) (before : Past) : Type 0 where
  pub jobs : old.list ≡ jobs_in old.case
  pub long : length old.board ≡ length old.list
  pub other_long : length other ≡ length old.list
  pub some : 0 < old.page
  pub healthy : old.healthy ≡ true
  pub file : tells → HasFile old before

module _ (tells : Type 0) (old : KeeperData) (other : BoardData) (before : Past) (is : IsGiven tells old other before) where
  once : IsOnce old.list
  once = once_of old.case old.list is.jobs

  new_names : AreFileable old.list old.board (all_rows (batches_gained old other))
  new_names =
      subst (AreFileable old.list old.board) (sym (all_rows_for (outcome_on old.list other) old.list old.page is.some (gained old.board other)))
      (blanks_filled (outcome_on old.list other) old.list once (gained old.board other) old.board is.long (gained_blank 0 old.board other)).fileable

  both_boards : filed old.list old.board (all_rows (batches_gained old other)) ≡ union old.board other
  both_boards =
      ap (filed old.list old.board) (all_rows_for (outcome_on old.list other) old.list old.page is.some (gained old.board other)) ∙ filed_gained old.list once old.board other is.long is.other_long

  -- right boards have no job apart
  none_apart : (job : ℕ) (kept o : Outcome) → IsRightFor old old.board → IsRightFor old other → IsApart old.board other job kept o → ⊥
  none_apart job kept o here there found =
      let a : IsRightBoard (outcome old.case) old.list old.board = record { long = is.long; right = here } in
      let b : IsRightBoard (outcome old.case) old.list other = record { long = is.other_long; right = there } in
      found.apart (agree (outcome old.case) old.list old.board other a b job kept o found.here found.there)

  -- nothing was done yet
  at_first : IsPartWay (tells × IsRightFor old other) before before old old (batches_gained old other) (batches_gained old other)
  at_first = keeper.at_start (tells × IsRightFor old other) before old (batches_gained old other) is.long is.healthy (λ both. is.file both.0)

  pub disagreed : (faults job : ℕ) (kept o : Outcome) → IsFirstApart old.board other job kept o → IsMerged tells old old other before before faults faults (Err (Disagree job kept o))
  disagreed faults job kept o found = record {
    disagree = found;
    same = λ told. (refl, refl);
    agree = λ not. absurd (cc);
    right = λ here there. absurd (none_apart job kept o here there found.is);
    board = tt;
    keeper = tt;
    number = tt;
    names = new_names;
    cause = refl;
    cut_short = λ fault. absurd (cc);
    broken = λ fault. absurd (cc);
    file = λ told fine. is.file told;
    bytes = λ told. tt;
    any_moment = λ told. started before (RecordsSome before (batches_gained old other)) (records_none before old (batches_gained old other) (is.file told));
    any_moment_kept = λ told right. at_first.leaves (told, right);
    kept = λ told right sound gives fine. settled_gives old.case old.board old.gate before (is.file told) gives;
    sound = λ told right. at_first.sound (told, right);
    old_rows = λ told right. at_first.old_rows (told, right);
    rows_stay = λ told right. at_first.rows_stay (told, right);
  }

module _ (tells : Type 0) (old new : KeeperData) (other : BoardData) (before now : Past) (is : IsGiven tells old other before) (agreed : Agree old.board other)
    (went : IsLeft tells old other before now) where
  pub whole : (faults faults' count : ℕ) → new ≡ after_batches old (batches_gained old other) → count ≡ length (gained old.board other) → faults' ≡ faults → (tells → HasFile new now)
      → (tells → content now ≡ appended_all (content before) old.gate (batches_gained old other))
      → (tells → IsRightFor old other → EachImage before HasRightOldRows → Gives old.case old.board (content before) → EachImage now (Gives new.case new.board))
      → IsMerged tells old new other before now faults faults' (Ok count)
  whole faults faults' count kept number fine file bytes gives = record {
    disagree = tt;
    same = λ told. absurd (cc);
    agree = λ not. agreed;
    right = λ here there. refl;
    board = ap (λ (k : KeeperData). k.board) kept ∙ both_boards tells old other before is;
    keeper = kept;
    number = number;
    names = new_names tells old other before is;
    cause = fine;
    cut_short = λ fault. absurd (cc);
    broken = λ fault. absurd (cc);
    file = λ told not. file told;
    bytes = bytes;
    any_moment = went.any_moment;
    any_moment_kept = went.any_moment_kept;
    kept = λ told right sound gave not. gives told right sound gave;
    sound = went.sound;
    old_rows = went.old_rows;
    rows_stay = went.rows_stay;
  }

  pub failed : (faults faults' : ℕ) → IsCutShort tells before now old (batches_gained old other) new → IsBroken (tells × IsRightFor old other) before now old (batches_gained old other) new → Rises faults faults'
      → IsMerged tells old new other before now faults faults' (Err DiskFault)
  failed faults faults' cut broken risen = record {
    disagree = tt;
    same = λ told. absurd (cc);
    agree = λ not. agreed;
    right = λ here there. refl;
    board = tt;
    keeper = tt;
    number = tt;
    names = new_names tells old other before is;
    cause = risen;
    cut_short = λ fault. cut;
    broken = λ fault. broken;
    file = λ told not. absurd (cc);
    bytes = λ told. tt;
    any_moment = went.any_moment;
    any_moment_kept = went.any_moment_kept;
    kept = λ told right sound gave not. absurd (cc);
    sound = went.sound;
    old_rows = went.old_rows;
    rows_stay = went.rows_stay;
  }
