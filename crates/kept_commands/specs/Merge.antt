-- What a merge comes to: a second campaign file of the case, OTHER, is read, and its outcomes go into the first.
use Rattle.std.specs.Prelude.{◌≡◌, ◌⊎◌, ℕ, ◌==◌, nat_lt, if◌then◌else◌, false, List, ◌∷◌, length}
use Rattle.std.specs.Prelude.{Option, Some, None, Result, Ok, Err}
use Rattle.fs_outside.specs.Past.{Past, EachImage, IsImage, content}
use Rattle.fs_model.specs.declared.outcomes.Row.{Row}
use Rattle.fs_model.specs.declared.sites.Job.{Job}
use Rattle.fs_model.specs.Case.{CaseData}
use Rattle.fs_model.specs.Job.{jobs_in}
use Rattle.fs_model.specs.Outcome.{same_outcome}
use Rattle.fs_model.specs.Run.{golden}
use Rattle.fs_model.specs.Steps.{◌>>=◌, ◌>>◌}
use Rattle.def_use.specs.Board.{kept_of}
use Rattle.golden_trace.specs.Goldens.{IsFault}
use Rattle.result_keeper.specs.declared.refusals.KeepRefusal.{KeepRefusal}
use Rattle.result_keeper.specs.Acceptance.{HasRightOldRows, IsSound, accept}
use Rattle.result_keeper.specs.Blanks.{batches_for}
use Rattle.result_keeper.specs.Keep.{Gives}
use Rattle.shard_merge.specs.Gained.{gained, outcome_on}
use Rattle.shard_merge.specs.Union.{BoardData, union}
use Rattle.command_line.specs.declared.commands.Format.{Format}
use Rattle.phases.specs.Baselines.{Halts}
use Rattle.phases.specs.Reports.{board_report}
use Rattle.phases.specs.declared.status.OtherReason.TheVariants.{Refused, TooLong, Disagree}
use Rattle.phases.specs.declared.status.Status.{Status}
use Rattle.phases.specs.declared.status.Status.TheVariants as status
use Rattle.kept_commands.specs.Crash.{CrashStory, IsCutOff, IsWorkedOn, KeepsAtEnd}

-- the longest OTHER that is read, in bytes
abbrev pub max_other : ℕ
max_other = 268435456

-- ---- both boards together

-- a refusal of a file is this status
abbrev pub refused_as : (KeepRefusal → Status) → Result BoardData KeepRefusal → Result BoardData Status
refused_as name (Ok board) = Ok board
refused_as name (Err refusal) = Err (name refusal)

abbrev pub too_long : List ℕ → Option Status
too_long other = if nat_lt max_other (length other) then Some (status.BadOther TooLong) else None

-- the first of these jobs that has two outcomes
abbrev pub first_apart : List Job → BoardData → BoardData → Option Status
first_apart (job ∷ list) (Some here ∷ kept) (Some there ∷ others) =
    if same_outcome here there then first_apart list kept others
    else Some (status.BadOther (Disagree job.cycle job.cell job.bit))
first_apart (job ∷ list) (place ∷ kept) (p ∷ others) = first_apart list kept others
first_apart list kept others = None

-- the board that OTHER gives, or why it is refused by itself
abbrev pub other_board : List ℕ → CaseData → Result BoardData Status
other_board other c = do
  too_long other
  refused_as (λ refusal. status.BadOther (Refused refusal)) (accept other c)

-- the board of the campaign file and that of OTHER put together, or the first refusal
abbrev pub both_boards : List ℕ → List ℕ → CaseData → Result BoardData Status
both_boards file other c = do
  others ← other_board other c
  kept ← refused_as status.BadKeep (accept file c)
  first_apart (jobs_in c) kept others
  Ok (union kept others)

-- ---- the answer

-- what a merge answers: the refusal, or Done if each job has an outcome, or how many have one
abbrev pub answer_for : Result BoardData Status → Status
answer_for (Err refusal) = refusal
answer_for (Ok board) =
    if kept_of board == length board then status.Done else status.Stopped (kept_of board) (length board)

-- that is the answer, or a device failed or memory ran out; the output fails only in place of Done
abbrev pub Comes : Status → Status → Type 0
Comes due status.KeepFault = Unit {0}
Comes due status.OtherFault = Unit {0}
Comes due status.NoMemory = Unit {0}
Comes due status.WriteFault = due ≡ status.Done
Comes due answer = due ≡ answer

-- what OTHER by itself has to do with an answer
abbrev pub OtherEnds : List ℕ → CaseData → Status → Type 0
OtherEnds other c (status.BadOther (Disagree cycle cell bit)) = Unit {0}
OtherEnds other c (status.BadOther reason) = other_board other c ≡ Err (status.BadOther reason)
OtherEnds other c answer = Unit {0}

-- What the two files have to do with an answer: OTHER where its source tells it, whatever the disk has, and both where
-- the disk tells the campaign file too.
abbrev pub MergeEnds : Type 0 → Type 0 → List ℕ → List ℕ → CaseData → Status → Type 0
MergeEnds tells told file other c answer =
    (told → OtherEnds other c answer) × (tells → told → Comes (answer_for (both_boards file other c)) answer)

-- the golden run halts, and the two files end the merge so
abbrev pub EndsByFiles : Type 0 → Type 0 → List ℕ → List ℕ → CaseData → Status → Type 0
EndsByFiles tells told file other c answer = Halts c × MergeEnds tells told file other c answer

-- how a merge on a case may end
abbrev pub IsMergeCause : Type 0 → Type 0 → List ℕ → List ℕ → CaseData → Status → Type 0
IsMergeCause tells told file other c (status.BadGolden fault) = IsFault fault c.limit (golden c)
IsMergeCause tells told file other c (status.BadOther reason) = EndsByFiles tells told file other c (status.BadOther reason)
IsMergeCause tells told file other c status.OtherFault = EndsByFiles tells told file other c status.OtherFault
IsMergeCause tells told file other c status.KeepFault = EndsByFiles tells told file other c status.KeepFault
IsMergeCause tells told file other c (status.BadKeep refusal) = EndsByFiles tells told file other c (status.BadKeep refusal)
IsMergeCause tells told file other c (status.Stopped kept jobs) = EndsByFiles tells told file other c (status.Stopped kept jobs)
IsMergeCause tells told file other c status.Done = EndsByFiles tells told file other c status.Done
IsMergeCause tells told file other c status.WriteFault = EndsByFiles tells told file other c status.WriteFault
IsMergeCause tells told file other c status.NoMemory = Unit {0}
IsMergeCause tells told file other c answer = ⊥

-- the counts of the two boards put together are written
abbrev pub MergeSays : Format → List ℕ → List ℕ → CaseData → List ℕ → Type 0
MergeSays asked file other c text =
    (board : BoardData) × (both_boards file other c ≡ Ok board) × (text ≡ board_report asked c board)

-- ---- what a crash leaves

-- the rows of the jobs that the other board has and the file's lacks, with its outcomes, in job order and in pages
abbrev pub merge_due : ℕ → CaseData → BoardData → BoardData → List (List Row)
merge_due page c others board = batches_for (outcome_on (jobs_in c) others) (jobs_in c) page (gained board others)

-- the first of these pages were appended to a file that was opened, or begun; `sure` says that OTHER is sound
pub record IsMergedInto (sure : Type 0) (page : ℕ) (other : List ℕ) (c : CaseData) (old : Past) (image : List ℕ) : Type 0 where
  pub others : BoardData
  pub others_are : accept other c ≡ Ok others
  pub left : IsWorkedOn sure false (merge_due page c others) c old image

-- a crash left what it might have left at entry, or that
abbrev pub IsMerging : Type 0 → ℕ → List ℕ → CaseData → Past → List ℕ → Type 0
IsMerging sure page other c old image = IsImage old image ⊎ IsMergedInto sure page other c old image

-- the disk failed while these pages were appended
pub record IsMergeCutOff (page : ℕ) (other : List ℕ) (c : CaseData) (old now : Past) : Type 0 where
  pub others : BoardData
  pub others_are : accept other c ≡ Ok others
  pub cut : IsCutOff false (merge_due page c others) c old now

-- what a merge did to its campaign file, where OTHER is told, and where it is sound too
abbrev pub MergeStory : Type 0 → ℕ → List ℕ → CaseData → Past → Past → Status → Type 0
MergeStory told page other c old new answer =
    CrashStory told (told × IsSound other) ⊥ (Unit {0}) (λ sure. IsMerging sure page other c old)
    (KeepsAtEnd (IsMergeCutOff page other c old new) (content new ≡ content old) c new answer) old new answer

-- with an answer of the report, each crash from now on leaves a file that gives this board
abbrev pub BoardAtEnd : CaseData → BoardData → Past → Status → Type 0
BoardAtEnd c board now status.Done = EachImage now (Gives c board)
BoardAtEnd c board now status.WriteFault = EachImage now (Gives c board)
BoardAtEnd c board now (status.Stopped count jobs) = EachImage now (Gives c board)
BoardAtEnd c board now answer = Unit {0}

-- the union of the boards that both files give, where OTHER is sound, and the old rows of the first are right
abbrev pub UnionAtEnd : List ℕ → CaseData → Past → Past → Status → Type 0
UnionAtEnd other c old now answer =
    IsSound other → EachImage old HasRightOldRows → (kept others : BoardData) → accept (content old) c ≡ Ok kept
    → accept other c ≡ Ok others → BoardAtEnd c (union kept others) now answer
