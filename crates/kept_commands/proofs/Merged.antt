-- What a merge comes to, from its parts.
use Rattle.std.proofs.Common.{◌≡◌, inl, inr, ⊎_elim, ℕ, false, List, [], length, take, true, Result, Ok, Err, refl, ap, sym, subst, ◌∙◌, arith}
use Rattle.fs_outside.specs.Past.{Past, EachImage, IsImage, content}
use Rattle.fs_outside.proofs.Moments.{weaker}
use Rattle.fs_model.specs.declared.outcomes.Row.{Row}
use Rattle.fs_model.specs.declared.sites.Job.{Job}
use Rattle.fs_model.specs.Card.{HasCard}
use Rattle.fs_model.specs.Case.{CaseData}
use Rattle.keep_format.specs.KeepFile.{FileRow, rows_held, recorded}
use Rattle.fs_model.specs.Job.{HasOutcomes, jobs_in}
use Rattle.fs_model.specs.Outcome.{outcome}
use Rattle.fs_model.specs.Pages.{missing}
use Rattle.def_use.specs.Board.{kept_of}
use Rattle.result_keeper.specs.Accept.{IsBegun}
use Rattle.result_keeper.specs.Acceptance.{HasRightOldRows, IsSound, accept, board_of}
use Rattle.result_keeper.specs.Batches.{KeepsSome, all_rows}
use Rattle.result_keeper.specs.Blanks.{batches_for}
use Rattle.result_keeper.specs.Keep.{Gives, KeeperData, RecordsRow}
use Rattle.result_keeper.proofs.Opened.{accept_empty}
use Rattle.result_keeper.proofs.Stays.{added_row}
use Rattle.shard_merge.specs.declared.merging.MergeRefusal.{MergeRefusal}
use Rattle.shard_merge.specs.Gained.{batches_gained, gained, outcome_on}
use Rattle.shard_merge.specs.Laws.{IsRightBoard}
use Rattle.shard_merge.specs.Merged.{IsMerged, IsRightFor, RecordsSome}
use Rattle.shard_merge.specs.Union.{Agree, BoardData, union}
use Rattle.shard_merge.proofs.Unions.{right_union}
use Rattle.command_line.specs.declared.commands.Format.{Format}
use Rattle.command_line.specs.declared.commands.Format.TheVariants as format
use Rattle.phases.specs.Baselines.{Halts, HasNoBaseline}
use Rattle.phases.specs.Reports.{board_report, report_of}
use Rattle.phases.specs.Status.{is_keep_fault, is_other_fault}
use Rattle.phases.specs.declared.status.OtherReason.TheVariants.{Refused, TooLong, Disagree}
use Rattle.phases.specs.declared.status.Status.{Status}
use Rattle.phases.specs.declared.status.Status.TheVariants as status
use Rattle.phases.proofs.Outputs.{IsSilent}
use Rattle.kept_commands.specs.Crash.{GivesAll, HoldsUpTo, IsCutOff, IsWorkedOn, KeepsAtEnd, KeepsPages, PagesStory, WorkedStory}
use Rattle.kept_commands.specs.Keep.{EndsFrom, GivesRight, LeavesKeep}
use Rattle.kept_commands.specs.Merge.{BoardAtEnd, IsMergeCause, IsMergeCutOff, IsMerging, MergeSays, MergeStory, answer_for, both_boards, merge_due, other_board}
use Rattle.kept_commands.specs.Merging.{FileEnds, FileSays, IsNoOther, UnionEnds, together}
use Rattle.kept_commands.specs.Run.{no_job}
use Rattle.kept_commands.proofs.Crashes.{OpensSo, ends_so, kept_pages, opened_story}
use Rattle.kept_commands.proofs.Together.{agreed_boards, blank_boards, both_are, both_given, done_whole, no_file, no_other, part_answer, whole_answer}
use Rattle.kept_commands.proofs.Trusted.{board_right, none_missing, open_long, report_counts, same_board, sound_right}

-- ---- two boards

-- a union that is looked at ends as the merge does
pub union_ends : (c : CaseData) (kept others : BoardData) (answer : Status) → Agree kept others → EndsFrom no_job (union kept others) answer → UnionEnds c kept others answer
union_ends c kept others status.KeepFault agree ends = tt
union_ends c kept others (status.Stopped count jobs) agree ends =
    let short = ends.short in
    let kept_is = ends.kept_is in
    let board = union kept others in
    let counted : kept_of board ≡ count = omega (arith, kept_is) in
    ap answer_for (agreed_boards c kept others agree) ∙ part_answer board (omega (arith, short))
    ∙ ap (λ (n : ℕ). status.Stopped n (length board)) counted ∙ ap (λ (n : ℕ). status.Stopped count n) (sym ends.jobs_is)
union_ends c kept others status.Done agree ends = ap answer_for (agreed_boards c kept others agree) ∙ whole_answer (union kept others) (none_missing c (union kept others) ends)
union_ends c kept others status.WriteFault agree ends = ap answer_for (agreed_boards c kept others agree) ∙ whole_answer (union kept others) (none_missing c (union kept others) ends)
union_ends c kept others status.NoMemory agree ends = tt
union_ends c kept others answer agree ends = absurd ends

-- and a file that gives it keeps what the answer says
pub union_keeps : (cut : Type 0) (c : CaseData) (now : Past) (board : BoardData) (answer : Status) → (answer ≡ status.KeepFault → cut) → EachImage now (Gives c board) → EndsFrom no_job board answer
    → (answer ≡ status.NoMemory → GivesAll c now) → KeepsAtEnd cut ⊥ c now answer
union_keeps cut c now board status.KeepFault failed images ends all = failed refl
union_keeps cut c now board (status.Stopped count jobs) failed images ends all = record { board = board; images = images; counted = let k = ends.kept_is in omega (arith, k) }
union_keeps cut c now board status.Done failed images ends all = record { board = board; images = images; none_missing = none_missing c board ends }
union_keeps cut c now board status.WriteFault failed images ends all = record { board = board; images = images; none_missing = none_missing c board ends }
union_keeps cut c now board status.NoMemory failed images ends all = inr (all refl)
union_keeps cut c now board answer failed images ends all = absurd ends

pub board_at_end : (c : CaseData) (now : Past) (board : BoardData) (answer : Status) → EachImage now (Gives c board) → BoardAtEnd c board now answer
board_at_end c now board status.Done images = images
board_at_end c now board status.WriteFault images = images
board_at_end c now board (status.Stopped count jobs) images = images
board_at_end c now board answer images = tt

-- ---- the file

-- a file that is begun gives no outcome that another board could disagree with
not_begun : (file : List ℕ) (c : CaseData) (kept others : BoardData) (refusal : Status) → accept file c ≡ Ok kept → together c kept others ≡ Err refusal → IsBegun false file → ⊥
not_begun file c kept others refusal opened apart begun =
    ⊎_elim (λ (never : false ≡ true). absurd (cc))
    (λ (none : file ≡ []).
    let blank : kept ≡ board_of (jobs_in c) [] = same_board (board_of (jobs_in c) []) kept (sym (accept_empty file c none) ∙ opened) in
    let fine : together c kept others ≡ Ok (union kept others) = blank_boards c kept others blank in
    absurd (cc))
    begun

-- with an answer that leaves the file it reads as before
pub union_leaves : (file mid new : List ℕ) (c : CaseData) (kept others : BoardData) (answer : Status) → accept file c ≡ Ok kept → ((IsBegun false file → ⊥) → mid ≡ file) → (LeavesKeep answer → new ≡ mid)
    → UnionEnds c kept others answer → LeavesKeep answer → new ≡ file
union_leaves file mid new c kept others (status.BadOther (Disagree cycle cell bit)) opened same told ends leaves =
    told leaves ∙ same (not_begun file c kept others (status.BadOther (Disagree cycle cell bit)) opened ends)
union_leaves file mid new c kept others (status.Stopped count jobs) opened same told ends leaves = absurd leaves
union_leaves file mid new c kept others status.Done opened same told ends leaves = absurd leaves
union_leaves file mid new c kept others status.WriteFault opened same told ends leaves = absurd leaves
union_leaves file mid new c kept others status.KeepFault opened same told ends leaves = absurd leaves
union_leaves file mid new c kept others status.NoMemory opened same told ends leaves = absurd leaves
union_leaves file mid new c kept others answer opened same told ends leaves = absurd ends

-- what a merge of boards says of its pages
recorded_pages : (pages : List (List Row)) (before : Past) (image : List ℕ) → RecordsSome before pages image → KeepsPages ⊥ pages before image
recorded_pages pages before image some = record { count = some.count; within = some.within; keeps = record { records = some.records; keeps = λ no. absurd no.0 } }

recorded_row : (pages : List (List Row)) (row : FileRow) (before : Past) (image : List ℕ) → RecordsRow row (content before) → RecordsSome before pages image → RecordsRow row image
recorded_row pages row before image has some = added_row row (recorded (content before)) (recorded image) (all_rows (take some.count pages)) some.records has

-- what the merging of a board did to its file
pub merged_pages : (tells : Type 0) (old new : KeeperData) (others : BoardData) (before now : Past) (n n' : ℕ) (merged : Result ℕ MergeRefusal) (answer : Status)
    → IsMerged tells old new others before now n n' merged → tells → IsImage before (content before) → (LeavesKeep answer → content now ≡ content before)
    → (IsRightFor old others → EachImage before HasRightOldRows → Gives old.case old.board (content before)
    → KeepsAtEnd (HoldsUpTo (EachImage before HasRightOldRows) (rows_held (content before)) (batches_gained old others) now) ⊥ old.case now answer)
    → PagesStory (IsRightFor old others) old (batches_gained old others) before now answer
merged_pages tells old new others before now n n' merged answer is told reads untouched end = record {
  read = λ no. absurd no;
  untouched = untouched;
  sound = is.sound told;
  old_rows = is.old_rows told;
  recorded = λ _ row each.
      weaker before now (RecordsSome before pages) (RecordsRow row) (λ image some. recorded_row pages row before image (each (content before) reads) some) (is.any_moment told);
  rows_stay = λ right _ row. is.rows_stay told right row;
  moments_recorded = λ _. weaker before now (RecordsSome before pages) (KeepsPages ⊥ pages before) (recorded_pages pages before) (is.any_moment told);
  moments = λ right. weaker before now (KeepsSome before pages) (KeepsPages (Unit {0}) pages before) (kept_pages (Unit {0}) pages before) (is.any_moment_kept told right);
  end = λ right each gives. end right (each tt) gives;
}
  where
    pages : List (List Row)
    pages = batches_gained old others

-- what an opening that failed did to it
pub unopened_story : (page : ℕ) (c d : CaseData) (others : BoardData) (old mid : Past) (answer : Status) → c ≡ d → OpensSo false c old mid → (LeavesKeep answer → content mid ≡ content old)
    → KeepsAtEnd (IsCutOff false (merge_due page c others) c old mid) (content mid ≡ content old) c mid answer
    → WorkedStory (HasOutcomes (outcome d) (jobs_in d) others) false (merge_due page d others) d old mid answer
unopened_story page c d others old mid answer same opens read end =
    subst (λ (x : CaseData). WorkedStory (HasOutcomes (outcome x) (jobs_in x) others) false (merge_due page x others) x old mid answer) same
    (opened_story (HasOutcomes (outcome c) (jobs_in c) others) false (merge_due page c others) c old mid answer opens read end)

-- the rows that a keeper gains are those that follow from its board
pub pages_gained : (keeper : KeeperData) (page : ℕ) (c : CaseData) (others : BoardData) → keeper.list ≡ jobs_in c → keeper.page ≡ page → batches_gained keeper others ≡ merge_due page c others keeper.board
pages_gained keeper page c others same_list same_page =
    ap (λ (l : List Job). batches_for (outcome_on l others) l keeper.page (gained keeper.board others)) same_list
    ∙ ap (λ (p : ℕ). batches_for (outcome_on (jobs_in c) others) (jobs_in c) p (gained keeper.board others)) same_page

pub file_ends : (tells : Type 0) (file : List ℕ) (kept others : BoardData) (c : CaseData) (answer : Status) → (tells → accept file c ≡ Ok kept) → UnionEnds c kept others answer → FileEnds tells file others c answer
file_ends tells file kept others c status.KeepFault opened ends = tt
file_ends tells file kept others c status.NoMemory opened ends = tt
file_ends tells file kept others c (status.BadKeep refusal) opened ends = absurd ends
file_ends tells file kept others c answer opened ends = (kept, opened, ends)

-- ---- both files

module _ (tells told : Type 0) (file other : List ℕ) (c : CaseData) where
  -- a board was merged
  module _ (others : BoardData) (gives : told → other_board other c ≡ Ok others) where
    due_is : (due : Status) → (kept : BoardData) × (tells → accept file c ≡ Ok kept) × (answer_for (together c kept others) ≡ due) → tells → told
        → answer_for (both_boards file other c) ≡ due
    due_is due ends f t = ap answer_for (both_are file other c ends.0 others (gives t) (ends.1 f)) ∙ ends.2

    pub file_cause : (answer : Status) → Halts c → FileEnds tells file others c answer → IsMergeCause tells told file other c answer
    file_cause status.KeepFault halts ends = (halts, ((λ t. tt), (λ f t. tt)))
    file_cause status.NoMemory halts ends = tt
    file_cause (status.BadKeep refusal) halts ends = (halts, ((λ t. tt), (λ f t. ap answer_for (no_file file other c others refusal (gives t) (ends f)))))
    file_cause (status.Stopped count jobs) halts ends = (halts, ((λ t. tt), due_is (status.Stopped count jobs) ends))
    file_cause status.Done halts ends = (halts, ((λ t. tt), due_is status.Done ends))
    file_cause status.WriteFault halts ends = (halts, ((λ t. tt), due_is status.Done ends))
    file_cause (status.BadOther (Disagree cycle cell bit)) halts ends =
        (halts, ((λ t. tt), (λ f t. ap answer_for (both_are file other c ends.0 others (gives t) (ends.1 f) ∙ ends.2))))
    file_cause answer halts ends = absurd ends.2

    pub file_says : (f : Format) (text : List ℕ) → told → FileSays f file others c text → MergeSays f file other c text
    file_says f text t says = (says.2.0, both_are file other c says.0 others (gives t) says.1 ∙ says.2.1, says.2.2)

  -- OTHER gives no board
  pub no_other_cause : (answer : Status) → Halts c → IsNoOther told other c answer → IsMergeCause tells told file other c answer
  no_other_cause (status.BadOther TooLong) halts why = (halts, (why, (λ f t. ap answer_for (no_other file other c (status.BadOther TooLong) (why t)))))
  no_other_cause (status.BadOther (Refused refusal)) halts why = (halts, (why, (λ f t. ap answer_for (no_other file other c (status.BadOther (Refused refusal)) (why t)))))
  no_other_cause (status.BadOther (Disagree cycle cell bit)) halts why =
      (halts, ((λ t. tt), (λ f t. ap answer_for (no_other file other c (status.BadOther (Disagree cycle cell bit)) (why t)))))
  no_other_cause status.OtherFault halts why = (halts, ((λ t. tt), (λ f t. tt)))
  no_other_cause status.NoMemory halts why = tt
  no_other_cause answer halts why = absurd why

  pub no_other_silent : (answer : Status) → IsNoOther told other c answer → IsSilent answer
  no_other_silent (status.BadOther reason) why = tt
  no_other_silent status.OtherFault why = tt
  no_other_silent status.NoMemory why = tt
  no_other_silent answer why = absurd why

  pub no_other_keeps : (answer : Status) → IsNoOther told other c answer → is_keep_fault answer ≡ false
  no_other_keeps (status.BadOther reason) why = refl
  no_other_keeps status.OtherFault why = refl
  no_other_keeps status.NoMemory why = refl
  no_other_keeps answer why = absurd why

  pub no_other_end : (cut same : Type 0) (now : Past) (answer : Status) → same → IsNoOther told other c answer → KeepsAtEnd cut same c now answer
  no_other_end cut same now (status.BadOther reason) as_before why = tt
  no_other_end cut same now status.OtherFault as_before why = tt
  no_other_end cut same now status.NoMemory as_before why = inl as_before
  no_other_end cut same now answer as_before why = absurd why

  pub no_other_union : (board : BoardData) (now : Past) (answer : Status) → IsNoOther told other c answer → BoardAtEnd c board now answer
  no_other_union board now (status.BadOther reason) why = tt
  no_other_union board now status.OtherFault why = tt
  no_other_union board now status.NoMemory why = tt
  no_other_union board now answer why = absurd why

  -- the case has no golden run that halts
  pub no_baseline_merges : (answer : Status) → HasNoBaseline c answer → IsMergeCause tells told file other c answer
  no_baseline_merges (status.BadGolden fault) why = why
  no_baseline_merges status.NoMemory why = tt
  no_baseline_merges answer why = absurd why

-- a merge into a file tells no fault of OTHER
pub file_others : (tells : Type 0) (file : List ℕ) (others : BoardData) (c : CaseData) (answer : Status) → FileEnds tells file others c answer → is_other_fault answer ≡ false
file_others tells file others c status.OtherFault ends = absurd ends.2
file_others tells file others c answer ends = refl

pub no_baseline_union : (c : CaseData) (board : BoardData) (now : Past) (answer : Status) → HasNoBaseline c answer → BoardAtEnd c board now answer
no_baseline_union c board now (status.BadGolden fault) why = tt
no_baseline_union c board now status.NoMemory why = tt
no_baseline_union c board now answer why = absurd why

pub no_baseline_others : (c : CaseData) (answer : Status) → HasNoBaseline c answer → is_other_fault answer ≡ false
no_baseline_others c (status.BadGolden fault) why = refl
no_baseline_others c status.NoMemory why = refl
no_baseline_others c answer why = absurd why

-- what a merge of a board leaves is what one of OTHER leaves
pub merge_story : (told : Type 0) (page : ℕ) (other : List ℕ) (c : CaseData) (others : BoardData) (old new : Past) (answer : Status) → HasCard c → (told → accept other c ≡ Ok others)
    → WorkedStory (HasOutcomes (outcome c) (jobs_in c) others) false (merge_due page c others) c old new answer → MergeStory told page other c old new answer
merge_story told page other c others old new answer has gives story = record {
  read = λ no. absurd no;
  untouched = story.untouched;
  sound = λ so. story.sound (right so);
  old_rows = λ so. story.old_rows (right so);
  recorded = λ _. story.recorded refl;
  rows_stay = λ so _ row. story.rows_stay (right so) refl row;
  moments_recorded = λ t. weaker old new (on ⊥) (IsMerging ⊥ page other c old) (merging ⊥ t) (story.moments_recorded tt);
  moments = λ so. weaker old new (on (Unit {0})) (IsMerging (Unit {0}) page other c old) (merging (Unit {0}) so.0) (story.moments (right so));
  end = λ so each.
      ends_so (IsCutOff false (merge_due page c others) c old new) (IsMergeCutOff page other c old new) (content new ≡ content old) (content new ≡ content old) c new answer
      (λ cut. record { others = others; others_are = gives so.0; cut = cut }) (λ same. same) (story.end (right so) (λ _. each tt));
}
  where
    on : Type 0 → List ℕ → Type 0
    on sure = IsWorkedOn sure false (merge_due page c others) c old

    right : told × IsSound other → HasOutcomes (outcome c) (jobs_in c) others
    right so = board_right c false other others (gives so.0) (λ _. sound_right c other has so.1)

    merging : (sure : Type 0) → told → (image : List ℕ) → IsWorkedOn sure false (merge_due page c others) c old image → IsMerging sure page other c old image
    merging sure t image left = inr (record { others = others; others_are = gives t; left = left })

-- ---- what is written

whole_report : (c : CaseData) (f : Format) (board : BoardData) → length board ≡ length (jobs_in c) → HasOutcomes (outcome c) (jobs_in c) board → missing board ≡ [] → board_report f c board ≡ report_of f c
whole_report c format.Text board long right none = report_counts c format.Text board long right none
whole_report c format.Json board long right none = report_counts c format.Json board long right none
whole_report c format.Csv board long right none = report_counts c format.Text board long right none

-- where both files give right outcomes it is the counts of the case
pub merge_text : (c : CaseData) (f : Format) (file other text : List ℕ) → MergeSays f file other c text → GivesRight file c → GivesRight other c → answer_for (both_boards file other c) ≡ status.Done
    → text ≡ report_of f c
merge_text c f file other text says trust trust_other done =
    let board = says.0 in
    let a = both_given file other c board says.1 in
    let kept_right : IsRightBoard (outcome c) (jobs_in c) a.kept = record { long = open_long c false file a.kept a.kept_is; right = board_right c false file a.kept a.kept_is (λ _. trust) } in
    let others_right : IsRightBoard (outcome c) (jobs_in c) a.others = record { long = open_long c false other a.others a.others_are; right = board_right c false other a.others a.others_are (λ _. trust_other) } in
    let both_right : IsRightBoard (outcome c) (jobs_in c) board =
    subst (IsRightBoard (outcome c) (jobs_in c)) (sym a.board_is) (right_union (outcome c) (jobs_in c) a.kept a.others kept_right others_right) in
    says.2 ∙ whole_report c f board both_right.long both_right.right (done_whole board (ap answer_for (sym says.1) ∙ done))
