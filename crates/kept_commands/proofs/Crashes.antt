-- What a call leaves of its campaign file: nothing, that of its pages, and that of an opening and its pages.
use Rattle.std.proofs.Common.{◌≡◌, ◌⊎◌, inl, inr, ⊎_elim, ℕ, ◌+◌, ◌<◌, ◌^◌, Bool, true, false, List, [], ◌∷◌, length, take, Option, Some, None, Result, Ok, refl, ap, sym, subst, ◌∙◌, arith}
use Rattle.fs_outside.specs.Past.{Past, Made, Wrote, Synced, content, IsImage, IsSynced, EachImage, LeavesOnly}
use Rattle.fs_outside.proofs.Moments.{joined, ended, weaker, image_if_synced, image_made, image_is_content}
use Rattle.fs_model.specs.declared.sites.Site.{Site}
use Rattle.fs_model.specs.declared.sites.Job.{Job}
use Rattle.keep_format.specs.declared.fault.FormatFault.{FormatFault}
use Rattle.fs_model.specs.declared.outcomes.Outcome.{Outcome}
use Rattle.fs_model.specs.declared.outcomes.Row.{Row}
use Rattle.fs_model.proofs.Cards.{card_length}
use Rattle.fs_model.specs.Card.{HasCard, card}
use Rattle.fs_model.specs.Job.{jobs_in}
use Rattle.result_keeper.specs.Acceptance.{HasRightOldRows, IsSound, accept, board_of}
use Rattle.fs_model.specs.Case.{CaseData}
use Rattle.fs_model.specs.Filling.{board_filled}
use Rattle.keep_format.specs.KeepFile.{FileRow, KeptFile, added_rows, agreed, rows_held, kept}
use Rattle.fs_model.specs.Outcome.{outcome}
use Rattle.fs_model.specs.Pages.{missing, missing_from}
use Rattle.keep_format.proofs.Agreeing.{recorded_if_kept}
use Rattle.result_keeper.proofs.Batches.{more_none, more_under}
use Rattle.result_keeper.proofs.Begun.{headed_kept}
use Rattle.result_keeper.proofs.OldRows.{old_begun}
use Rattle.result_keeper.proofs.Stays.{stays_at_first, stays_longer}
use Rattle.def_use.specs.Board.{kept_of}
use Rattle.result_keeper.specs.Accept.{IsBegun}
use Rattle.result_keeper.specs.Begin.{IsHeaded, IsOneOfThree, file_begun}
use Rattle.result_keeper.specs.Keep.{Gives, HasFile, HoldsMore, HoldsSame, KeeperData, RecordsRow, RowStays}
use Rattle.result_keeper.specs.Batches.{IsBroken, KeepsSome, after_batches, all_rows}
use Rattle.campaign.specs.Perform.{batches_due}
use Rattle.campaign.specs.Ready.{IsPrepared, ReadyData, portion_of}
use Rattle.campaign.specs.Rows.{batches}
use Rattle.campaign.specs.Shards.{in_shard}
use Rattle.campaign.proofs.OfShard.{shard_portion}
use Rattle.command_line.specs.Request.{CampaignData}
use Rattle.kept_commands.specs.Run.{run_due}
use Rattle.kept_commands.specs.Crash.{AsAtEntry, AtOpening, AtPage, AtPageAnew, BegunAnew, Beginning, CrashStory, GivesAll, GoneOn, HoldsUpTo, IsCutOff, IsWorkedOn, KeepsAtEnd, KeepsFirstPages, KeepsPages, PagesStory, WorkedStory}
use Rattle.kept_commands.specs.Keep.{LeavesKeep}
use Rattle.phases.specs.Baselines.{HasNoBaseline}
use Rattle.phases.specs.Status.{IsWriting}
use Rattle.phases.specs.declared.status.Status.{Status}
use Rattle.phases.specs.declared.status.Status.TheVariants as status
use Rattle.kept_commands.proofs.FileEnds.{none_befell, both_befell}

-- ---- from one story to another

-- nothing befell the file
pub nothing : (told given only_reads goes_on : Type 0) (left : Type 0 → List ℕ → Type 0) (ends : Type 0) (old new : Past) (answer : Status) → new ≡ old
    → ((sure : Type 0) (image : List ℕ) → IsImage old image → left sure image) → (given → ends) → CrashStory told given only_reads goes_on left ends old new answer
nothing told given only_reads goes_on left ends old new answer same here end = record {
  read = λ only. same;
  untouched = λ leaves. ap content same;
  sound = λ so each. none_befell old new IsSound same each;
  old_rows = λ so each. none_befell old new HasRightOldRows same each;
  recorded = λ goes row each. none_befell old new (RecordsRow row) same each;
  rows_stay = λ so goes row. subst (λ (p : Past). RowStays old p row) (sym same) (stays_at_first old row);
  moments_recorded = λ so. none_befell old new (left ⊥) same (here ⊥);
  moments = λ so. none_befell old new (left (Unit {0})) same (here (Unit {0}));
  end = λ so each. end so;
}

-- the same story in other words
pub retold : (told told' given given' only only' goes goes' : Type 0) (left left' : Type 0 → List ℕ → Type 0) (ends ends' : Type 0) (old new : Past) (answer : Status)
    → (told' → told) → (given' → given) → (only' → only) → (goes' → goes) → (goes → goes') → ((sure : Type 0) (image : List ℕ) → left sure image → left' sure image) → (given' → ends → ends')
    → CrashStory told given only goes left ends old new answer → CrashStory told' given' only' goes' left' ends' old new answer
retold told told' given given' only only' goes goes' left left' ends ends' old new answer tells gives reads goes_by by_goes leaves end_by story = record {
  read = λ o. story.read (reads o);
  untouched = story.untouched;
  sound = λ so. story.sound (gives so);
  old_rows = λ so. story.old_rows (gives so);
  recorded = λ g. story.recorded (goes_by g);
  rows_stay = λ so g. story.rows_stay (gives so) (goes_by g);
  moments_recorded = λ so. weaker old new (left ⊥) (left' ⊥) (leaves ⊥) (story.moments_recorded (tells so));
  moments = λ so. weaker old new (left (Unit {0})) (left' (Unit {0})) (leaves (Unit {0})) (story.moments (gives so));
  end = λ so each. end_by so (story.end (gives so) (λ g. each (by_goes g)));
}

-- the same end in other words
pub ends_so : (cut cut' same same' : Type 0) (c : CaseData) (now : Past) (answer : Status) → (cut → cut') → (same → same') → KeepsAtEnd cut same c now answer → KeepsAtEnd cut' same' c now answer
ends_so cut cut' same same' c now status.Done cuts sames ends = ends
ends_so cut cut' same same' c now status.WriteFault cuts sames ends = ends
ends_so cut cut' same same' c now (status.Stopped kept jobs) cuts sames ends = ends
ends_so cut cut' same same' c now status.KeepFault cuts sames ends = cuts ends
ends_so cut cut' same same' c now status.NoMemory cuts sames ends = ⊎_elim (λ s. inl (sames s)) (λ all. inr all) ends
ends_so cut cut' same same' c now answer cuts sames ends = tt

-- ---- its pages

missing_filled : (at : ℕ) (outcomes : Site → Outcome) (jobs : List Job) (board : List (Option Outcome)) → missing_from at (board_filled outcomes jobs board) ≡ []
unfolding board_filled
missing_filled at outcomes [] board = refl
missing_filled at outcomes (job ∷ jobs) [] = refl
missing_filled at outcomes (job ∷ jobs) (None ∷ board) = missing_filled (at + 1) outcomes jobs board
missing_filled at outcomes (job ∷ jobs) (Some o ∷ board) = missing_filled (at + 1) outcomes jobs board

all_at_end : (cut same : Type 0) (c : CaseData) (now : Past) (answer : Status) → IsWriting answer → GivesAll c now → KeepsAtEnd cut same c now answer
all_at_end cut same c now status.Done ends all = all
all_at_end cut same c now status.WriteFault ends all = all
all_at_end cut same c now status.NoMemory ends all = inr all
all_at_end cut same c now answer ends all = absurd ends

module _ (ready : ReadyData) (new : KeeperData) (now : Past) (kept_is : new ≡ after_batches ready.keeper (batches_due ready)) (gives : EachImage now (Gives new.case new.board)) where
  same_case : new.case ≡ ready.keeper.case
  same_case = ap (λ (k : KeeperData). k.case) kept_is

  gives_here : EachImage now (Gives ready.keeper.case new.board)
  gives_here = subst (λ (c : CaseData). EachImage now (Gives c new.board)) same_case gives

  pub pages_done : (cut same : Type 0) (answer : Status) → IsWriting answer → new.board ≡ board_filled (outcome ready.keeper.case) (jobs_in ready.keeper.case) ready.keeper.board
      → KeepsAtEnd cut same ready.keeper.case now answer
  pages_done cut same answer ends whole =
      all_at_end cut same ready.keeper.case now answer ends
      (record { board = new.board; images = gives_here; none_missing = ap missing whole ∙ missing_filled 0 (outcome ready.keeper.case) (jobs_in ready.keeper.case) ready.keeper.board })

  pub pages_stopped : (cut same : Type 0) (kept jobs : ℕ) → kept ≡ kept_of new.board → KeepsAtEnd cut same ready.keeper.case now (status.Stopped kept jobs)
  pages_stopped cut same kept jobs counted = record { board = new.board; images = gives_here; counted = sym counted }

-- ---- an opening, and its pages

is_begun : (fresh : Bool) (file : List ℕ) → IsBegun fresh file ⊎ (IsBegun fresh file → ⊥)
is_begun true file = inl (inl refl)
is_begun false [] = inl (inr refl)
is_begun false (byte ∷ file) = inr (λ begun. ⊎_elim (λ (told : false ≡ true). absurd (cc)) (λ (none : byte ∷ file ≡ []). absurd (cc)) begun)

pub read_now : (past : Past) → IsSynced past → IsImage past (content past)
read_now (Made bytes) is = image_made bytes
read_now (Wrote before at count taken) is = absurd is
read_now (Synced before) is = image_is_content before

kept_at_first : (c : CaseData) (file : List ℕ) → HasCard c → IsHeaded (card c) file → kept file ≡ Ok (file_begun (card c))
kept_at_first c file has headed =
    let long = card_length c in
    let short : length (card c) < 2 ^ 32 = omega (arith, long, has.case.map.rom_max, has.case.map.ram_max) in
    headed_kept (card c) file short headed

same_as_begun : (c : CaseData) (image : List ℕ) → kept image ≡ Ok (file_begun (card c)) → HoldsSame (agreed (file_begun (card c))) image
same_as_begun c image keeps = record { records = recorded_if_kept image (file_begun (card c)) keeps; keeps = keeps }

accept_none : (c : CaseData) → accept [] c ≡ Ok (board_of (jobs_in c) [])
unfolding accept
accept_none c = refl

module _ (fresh : Bool) (due : List (Option Outcome) → List (List Row)) (c : CaseData) (old mid : Past)
    (three : LeavesOnly old mid (IsOneOfThree old (card c))) (kept_so : (IsBegun fresh (content old) → ⊥) → LeavesOnly old mid (IsImage old)) where
  -- while it is opened, or begun
  pub opened_on : (sure : Type 0) → LeavesOnly old mid (IsWorkedOn sure fresh due c old)
  opened_on sure =
      ⊎_elim
      (λ (is : IsBegun fresh (content old)). weaker old mid (IsOneOfThree old (card c)) (IsWorkedOn sure fresh due c old)
      (λ image left. ⊎_elim (λ was. AsAtEntry was)
      (λ more. ⊎_elim (λ none. Beginning is none) (λ anew. BegunAnew is (record { count = 0; within = omega arith; keeps = more_none sure (agreed (file_begun (card c))) image (same_as_begun c image anew) })) more) left) three)
      (λ (not : IsBegun fresh (content old) → ⊥). weaker old mid (IsImage old) (IsWorkedOn sure fresh due c old) (λ image was. AsAtEntry was) (kept_so not))
      (is_begun fresh (content old))

  module _ (new : Past) (keeper : KeeperData) (pages : List (List Row)) (has : HasCard c) (pages_are : pages ≡ due keeper.board) (file : HasFile keeper mid)
      (board : fresh ≡ false → accept (content old) c ≡ Ok keeper.board) (blank : fresh ≡ true → keeper.board ≡ board_of (jobs_in c) [])
      (headed : IsBegun fresh (content old) → IsHeaded (card c) (content mid)) (old_rows : EachImage old HasRightOldRows → LeavesOnly old mid HasRightOldRows) where
    blank_board : IsBegun fresh (content old) → keeper.board ≡ board_of (jobs_in c) []
    blank_board is = by fresh refl is
      where
        by : (f : Bool) → fresh ≡ f → IsBegun fresh (content old) → keeper.board ≡ board_of (jobs_in c) []
        by true told is = blank told
        by false told is = ⊎_elim (λ (t : fresh ≡ true). blank t)
            (λ (none : content old ≡ []). let here = board told in let there = ap (λ (f : List ℕ). accept f c) none ∙ accept_none c in cc) is

    -- one that is begun has no old row
    begun_old : IsBegun fresh (content old) → EachImage mid HasRightOldRows
    begun_old is image now = subst HasRightOldRows (sym (image_if_synced mid image file.synced now)) (old_begun (content mid) (card c) (kept_at_first c (content mid) has (headed is)))

    -- and those of one that goes on are right, where they were in what each crash left before
    pub old_behind : (fresh ≡ false → EachImage old HasRightOldRows) → EachImage mid HasRightOldRows
    old_behind each = by fresh refl
      where
        by : (b : Bool) → fresh ≡ b → EachImage mid HasRightOldRows
        by true anew = begun_old (inl anew)
        by false on = ended old mid HasRightOldRows (old_rows (each on))

    -- a file that is begun holds no more than the rows of its pages
    begun_holds : (weak strong : Type 0) → (strong → weak) → (rows : List Row) (image : List ℕ) → IsBegun fresh (content old) → HoldsMore weak (rows_held (content mid)) rows image → HoldsMore strong (agreed (file_begun (card c))) rows image
    begun_holds weak strong by rows image is more =
        let first = same_as_begun c (content mid) (kept_at_first c (content mid) has (headed is)) in
        record {
          records = more.records ∙ ap (λ (k : Result KeptFile FormatFault). added_rows k rows) first.records;
          keeps = λ holds. more.keeps (by holds) ∙ ap (λ (k : Result KeptFile FormatFault). added_rows k rows) first.keeps;
        }

    first_pages : IsBegun fresh (content old) → pages ≡ due (board_of (jobs_in c) [])
    first_pages is = pages_are ∙ ap due (blank_board is)

    stale : (f : Bool) → fresh ≡ f → (IsBegun fresh (content old) → ⊥) → fresh ≡ false
    stale true told not = absurd (not (inl told))
    stale false told not = told

    was_image : (IsBegun fresh (content old) → ⊥) → IsImage old (content mid)
    was_image not = ended old mid (IsImage old) (kept_so not) (content mid) (read_now mid file.synced)

    -- while its pages are appended
    pub pages_on : (sure : Type 0) → LeavesOnly mid new (KeepsPages sure pages mid) → LeavesOnly mid new (IsWorkedOn sure fresh due c old)
    pages_on sure leaves =
        ⊎_elim
        (λ (is : IsBegun fresh (content old)).
        weaker mid new (KeepsPages sure pages mid) (IsWorkedOn sure fresh due c old)
        (λ image some. BegunAnew is
        (subst (λ (p : List (List Row)). KeepsFirstPages sure (agreed (file_begun (card c))) p image) (first_pages is)
        (record {
          count = some.count;
          within = some.within;
          keeps = begun_holds (sure × EachImage mid HasRightOldRows) sure (λ s. (s, begun_old is)) (all_rows (take some.count pages)) image is some.keeps;
        })))
        leaves)
        (λ (not : IsBegun fresh (content old) → ⊥).
        weaker mid new (KeepsPages sure pages mid) (IsWorkedOn sure fresh due c old)
        (λ image some. GoneOn keeper.board (board (stale fresh refl not)) (content mid) (was_image not)
        (subst (λ (p : List (List Row)). KeepsFirstPages (sure × EachImage old HasRightOldRows) (rows_held (content mid)) p image) pages_are
        (record {
          count = some.count;
          within = some.within;
          keeps = more_under (sure × EachImage mid HasRightOldRows) (sure × EachImage old HasRightOldRows) (rows_held (content mid)) (all_rows (take some.count pages)) image
              (λ both. (both.0, ended old mid HasRightOldRows (old_rows both.1))) some.keeps;
        })))
        leaves)
        (is_begun fresh (content old))

    -- and where the disk failed at one of them
    pub cut_on : HoldsUpTo (EachImage mid HasRightOldRows) (rows_held (content mid)) pages new → IsCutOff fresh due c old new
    cut_on up =
        ⊎_elim
        (λ (is : IsBegun fresh (content old)). AtPageAnew is
        (subst (λ (p : List (List Row)). HoldsUpTo (Unit {0}) (agreed (file_begun (card c))) p new) (first_pages is)
        (record {
          count = up.count;
          fewer = up.fewer;
          images = λ image now.
              ⊎_elim
              (λ less. inl (begun_holds (EachImage mid HasRightOldRows) (Unit {0}) (λ u. begun_old is) (all_rows (take up.count pages)) image is less))
              (λ more. inr (begun_holds (EachImage mid HasRightOldRows) (Unit {0}) (λ u. begun_old is) (all_rows (take (up.count + 1) pages)) image is more))
              (up.images image now);
        })))
        (λ (not : IsBegun fresh (content old) → ⊥). AtPage keeper.board (board (stale fresh refl not)) (content mid) (was_image not)
        (subst (λ (p : List (List Row)). HoldsUpTo (EachImage old HasRightOldRows) (rows_held (content mid)) p new) pages_are
        (record {
          count = up.count;
          fewer = up.fewer;
          images = λ image now.
              ⊎_elim
              (λ less. inl (more_under (EachImage mid HasRightOldRows) (EachImage old HasRightOldRows) (rows_held (content mid)) (all_rows (take up.count pages)) image (λ each. ended old mid HasRightOldRows (old_rows each)) less))
              (λ more. inr (more_under (EachImage mid HasRightOldRows) (EachImage old HasRightOldRows) (rows_held (content mid)) (all_rows (take (up.count + 1) pages)) image (λ each. ended old mid HasRightOldRows (old_rows each)) more))
              (up.images image now);
        })))
        (is_begun fresh (content old))

-- ---- the stories

-- what a campaign says of its pages
pub kept_pages : (sure : Type 0) (pages : List (List Row)) (old : Past) (image : List ℕ) → KeepsSome old pages image → KeepsPages sure pages old image
kept_pages sure pages old image some = record {
  count = some.count;
  within = some.within;
  keeps = more_under (EachImage old HasRightOldRows) (sure × EachImage old HasRightOldRows) (rows_held (content old)) (all_rows (take some.count pages)) image (λ both. both.1) some.keeps;
}

pub broken_pages : (tells : Type 0) (old now : Past) (keeper new : KeeperData) (pages : List (List Row)) → tells → IsBroken tells old now keeper pages new → HoldsUpTo (EachImage old HasRightOldRows) (rows_held (content old)) pages now
broken_pages tells old now keeper new pages told is = record { count = is.count; fewer = is.fewer; images = is.images told }

pub pages_as : (ready : ReadyData) (ends : Type 0) (old new : Past) (answer : Status) → (LeavesKeep answer → ⊥) → (EachImage old IsSound → LeavesOnly old new IsSound)
    → (EachImage old HasRightOldRows → LeavesOnly old new HasRightOldRows) → ((row : FileRow) → RowStays old new row) → LeavesOnly old new (KeepsSome old (batches_due ready))
    → (EachImage old HasRightOldRows → Gives ready.keeper.case ready.keeper.board (content old) → ends)
    → CrashStory (Unit {0}) (Unit {0}) ⊥ (Unit {0}) (λ sure. KeepsPages sure (batches_due ready) old) (Gives ready.keeper.case ready.keeper.board (content old) → ends) old new answer
pages_as ready ends old new answer writes sound old_rows stays leaves end = record {
  read = λ no. absurd no;
  untouched = λ l. absurd (writes l);
  sound = λ _. sound;
  old_rows = λ _. old_rows;
  recorded = λ _ row. (stays row).recorded;
  rows_stay = λ _ _. stays;
  moments_recorded = λ _. weaker old new (KeepsSome old (batches_due ready)) (KeepsPages ⊥ (batches_due ready) old) (kept_pages ⊥ (batches_due ready) old) leaves;
  moments = λ _. weaker old new (KeepsSome old (batches_due ready)) (KeepsPages (Unit {0}) (batches_due ready) old) (kept_pages (Unit {0}) (batches_due ready) old) leaves;
  end = λ _ each. end (each tt);
}

pub pages_story : (ready : ReadyData) (old new : Past) (answer : Status) → (LeavesKeep answer → ⊥) → (EachImage old IsSound → LeavesOnly old new IsSound)
    → (EachImage old HasRightOldRows → LeavesOnly old new HasRightOldRows) → ((row : FileRow) → RowStays old new row) → LeavesOnly old new (KeepsSome old (batches_due ready))
    → (EachImage old HasRightOldRows → Gives ready.keeper.case ready.keeper.board (content old)
    → KeepsAtEnd (HoldsUpTo (EachImage old HasRightOldRows) (rows_held (content old)) (batches_due ready) new) ⊥ ready.keeper.case new answer)
    → PagesStory (Unit {0}) ready.keeper (batches_due ready) old new answer
pages_story ready old new answer writes sound old_rows stays leaves end =
    pages_as ready (KeepsAtEnd (HoldsUpTo (EachImage old HasRightOldRows) (rows_held (content old)) (batches_due ready) new) ⊥ ready.keeper.case new answer) old new answer
    writes sound old_rows stays leaves end

-- these pages are those that follow from the board
pub run_pages : (asked : CampaignData) (c : CaseData) (ready : ReadyData) (spacing : ℕ) → IsPrepared ready c asked.page spacing asked.stop_after asked.shard → batches_due ready ≡ run_due asked c ready.keeper.board
run_pages asked c ready spacing prepared =
    ap (λ (x : CaseData). batches x (portion_of ready) ready.keeper.board ready.keeper.page ready.budget) prepared.keeper.same_case
    ∙ ap (λ (p : ℕ → Bool). batches c p ready.keeper.board ready.keeper.page ready.budget) (shard_portion ready asked.shard prepared.same_shard prepared.no_window)
    ∙ ap (λ (p : ℕ). batches c (in_shard asked.shard) ready.keeper.board p ready.budget) prepared.keeper.same_page
    ∙ ap (λ (b : Option ℕ). batches c (in_shard asked.shard) ready.keeper.board asked.page b) prepared.same_budget

-- what an opening says of its disk
pub record OpensSo (fresh : Bool) (c : CaseData) (old mid : Past) : Type 0 where
  pub sound : EachImage old IsSound → LeavesOnly old mid IsSound
  pub old_rows : EachImage old HasRightOldRows → LeavesOnly old mid HasRightOldRows
  pub rows_stay : fresh ≡ false → (row : FileRow) → RowStays old mid row
  pub three : LeavesOnly old mid (IsOneOfThree old (card c))
  pub kept_so : (IsBegun fresh (content old) → ⊥) → LeavesOnly old mid (IsImage old)

-- the disk failed at it
pub opening_cut : (fresh : Bool) (due : List (Option Outcome) → List (List Row)) (c : CaseData) (old mid : Past) → OpensSo fresh c old mid → IsCutOff fresh due c old mid
opening_cut fresh due c old mid opens =
    AtOpening (ended old mid (IsWorkedOn (Unit {0}) fresh (λ board. []) c old) (opened_on fresh (λ board. []) c old mid opens.three opens.kept_so (Unit {0})))

-- an opening that failed, whatever is said of its end
pub opened_as : (given ends : Type 0) (fresh : Bool) (due : List (Option Outcome) → List (List Row)) (c : CaseData) (old mid : Past) (answer : Status) → OpensSo fresh c old mid
    → (LeavesKeep answer → content mid ≡ content old) → ends → CrashStory (Unit {0}) given ⊥ (fresh ≡ false) (λ sure. IsWorkedOn sure fresh due c old) ends old mid answer
opened_as given ends fresh due c old mid answer opens same end = record {
  read = λ no. absurd no;
  untouched = same;
  sound = λ _. opens.sound;
  old_rows = λ _. opens.old_rows;
  recorded = λ goes row. (opens.rows_stay goes row).recorded;
  rows_stay = λ _. opens.rows_stay;
  moments_recorded = λ _. opened_on fresh due c old mid opens.three opens.kept_so ⊥;
  moments = λ _. opened_on fresh due c old mid opens.three opens.kept_so (Unit {0});
  end = λ _ each. end;
}

pub opened_story : (given : Type 0) (fresh : Bool) (due : List (Option Outcome) → List (List Row)) (c : CaseData) (old mid : Past) (answer : Status) → OpensSo fresh c old mid
    → (LeavesKeep answer → content mid ≡ content old) → KeepsAtEnd (IsCutOff fresh due c old mid) (content mid ≡ content old) c mid answer → WorkedStory given fresh due c old mid answer
opened_story given fresh due c old mid answer opens same end =
    opened_as given (KeepsAtEnd (IsCutOff fresh due c old mid) (content mid ≡ content old) c mid answer) fresh due c old mid answer opens same end

-- one that did not, and its pages, whatever is said of their end
pub pages_behind_as : (given ends ends' : Type 0) (fresh : Bool) (due : List (Option Outcome) → List (List Row)) (c : CaseData) (old mid new : Past) (keeper : KeeperData) (pages : List (List Row)) (answer : Status)
    → OpensSo fresh c old mid → HasCard c → keeper.case ≡ c → pages ≡ due keeper.board → HasFile keeper mid
    → (fresh ≡ false → accept (content old) c ≡ Ok keeper.board) → (fresh ≡ true → keeper.board ≡ board_of (jobs_in c) [])
    → (IsBegun fresh (content old) → IsHeaded (card c) (content mid)) → EachImage mid (Gives c keeper.board) → (LeavesKeep answer → content new ≡ content old)
    → ((HoldsUpTo (EachImage mid HasRightOldRows) (rows_held (content mid)) pages new → IsCutOff fresh due c old new) → ends → ends')
    → CrashStory (Unit {0}) given ⊥ (Unit {0}) (λ sure. KeepsPages sure pages mid) (Gives keeper.case keeper.board (content mid) → ends) mid new answer
    → CrashStory (Unit {0}) given ⊥ (fresh ≡ false) (λ sure. IsWorkedOn sure fresh due c old) ends' old new answer
pages_behind_as given ends ends' fresh due c old mid new keeper pages answer opens has same_case pages_are file board blank headed gives writes ends_by told = record {
  read = λ no. absurd no;
  untouched = writes;
  sound = λ so each. both_befell old mid new IsSound (opens.sound each) (told.sound so);
  old_rows = λ so each. both_befell old mid new HasRightOldRows (opens.old_rows each) (told.old_rows so);
  recorded = λ goes row each. both_befell old mid new (RecordsRow row) ((opens.rows_stay goes row).recorded each) (told.recorded tt row);
  rows_stay = λ so goes row. stays_longer old mid new row opens.old_rows (opens.rows_stay goes row) (told.rows_stay so tt row);
  moments_recorded = λ _. on ⊥ (told.moments_recorded tt);
  moments = λ so. on (Unit {0}) (told.moments so);
  end = λ so each.
      ends_by (cut_on fresh due c old mid opens.three opens.kept_so new keeper pages has pages_are file board blank headed opens.old_rows)
      (told.end so (λ _. old_behind fresh due c old mid opens.three opens.kept_so new keeper pages has pages_are file board blank headed opens.old_rows each)
      (subst (λ (x : CaseData). Gives x keeper.board (content mid)) (sym same_case) (gives (content mid) (read_now mid file.synced))));
}
  where
    on : (sure : Type 0) → LeavesOnly mid new (KeepsPages sure pages mid) → LeavesOnly old new (IsWorkedOn sure fresh due c old)
    on sure leaves =
        joined old mid new (IsWorkedOn sure fresh due c old) (opened_on fresh due c old mid opens.three opens.kept_so sure)
        (pages_on fresh due c old mid opens.three opens.kept_so new keeper pages has pages_are file board blank headed opens.old_rows sure leaves)

pub pages_behind : (given : Type 0) (fresh : Bool) (due : List (Option Outcome) → List (List Row)) (c : CaseData) (old mid new : Past) (keeper : KeeperData) (pages : List (List Row)) (answer : Status)
    → OpensSo fresh c old mid → HasCard c → keeper.case ≡ c → pages ≡ due keeper.board → HasFile keeper mid
    → (fresh ≡ false → accept (content old) c ≡ Ok keeper.board) → (fresh ≡ true → keeper.board ≡ board_of (jobs_in c) [])
    → (IsBegun fresh (content old) → IsHeaded (card c) (content mid)) → EachImage mid (Gives c keeper.board) → (LeavesKeep answer → content new ≡ content old)
    → PagesStory given keeper pages mid new answer → WorkedStory given fresh due c old new answer
pages_behind given fresh due c old mid new keeper pages answer opens has same_case pages_are file board blank headed gives writes told =
    pages_behind_as given (KeepsAtEnd (HoldsUpTo (EachImage mid HasRightOldRows) (rows_held (content mid)) pages new) ⊥ keeper.case new answer)
    (KeepsAtEnd (IsCutOff fresh due c old new) (content new ≡ content old) c new answer)
    fresh due c old mid new keeper pages answer opens has same_case pages_are file board blank headed gives writes
    (λ cuts ends. ends_so (HoldsUpTo (EachImage mid HasRightOldRows) (rows_held (content mid)) pages new) (IsCutOff fresh due c old new) ⊥ (content new ≡ content old) c new answer
    cuts (λ no. absurd no)
    (subst (λ (x : CaseData). KeepsAtEnd (HoldsUpTo (EachImage mid HasRightOldRows) (rows_held (content mid)) pages new) ⊥ x new answer) same_case ends))
    told

-- a case without a golden run that halts
pub no_baseline_end : (cut same : Type 0) (c : CaseData) (now : Past) (answer : Status) → same → HasNoBaseline c answer → KeepsAtEnd cut same c now answer
no_baseline_end cut same c now (status.BadGolden f) as_before why = tt
no_baseline_end cut same c now status.NoMemory as_before why = inl as_before
no_baseline_end cut same c now answer as_before why = absurd why
