-- The cause of each answer of a call of `fail_answers`, by its words, its image and its campaign file.
use Rattle.std.specs.Prelude.{◌≡◌, ◌≢◌, ℕ, List, Option, Some, None, Ok, Err}
use Rattle.fs_model.specs.declared.outcomes.Outcome.{Outcome}
use Rattle.fs_model.specs.Case.{CaseData}
use Rattle.fs_model.specs.Run.{golden}
use Rattle.golden_trace.specs.Goldens.{IsFault}
use Rattle.result_keeper.specs.Acceptance.{accept}
use Rattle.command_line.specs.Answers.{AnswersLineData}
use Rattle.phases.specs.Baselines.{Halts}
use Rattle.phases.specs.Loading.{IsBadImage, LoadsBy}
use Rattle.phases.specs.declared.status.Status.{Status}
use Rattle.phases.specs.declared.status.Status.TheVariants as status
use Rattle.answers_run.specs.AnswersCall.{AnswersCall}

-- ---- on a case

-- the file gives a board for the case: for each job its outcome, or a blank
pub record GivesBoard (file : List ℕ) (c : CaseData) : Type 0 where
  pub board : List (Option Outcome)
  pub opened : accept file c ≡ Ok board

-- how the work on a case may end, by the campaign file where its disk tells it
abbrev pub IsAnswersEnd : Type 0 → List ℕ → CaseData → Status → Type 0
IsAnswersEnd tells file c (status.BadGolden fault) = IsFault fault c.limit (golden c)
IsAnswersEnd tells file c status.KeepFault = Halts c
IsAnswersEnd tells file c (status.BadKeep refusal) = Halts c × (tells → accept file c ≡ Err refusal)
IsAnswersEnd tells file c status.Done = Halts c × (tells → GivesBoard file c)
IsAnswersEnd tells file c status.WriteFault = Halts c × (tells → GivesBoard file c)
IsAnswersEnd tells file c status.NoMemory = Unit {0}
IsAnswersEnd tells file c answer = ⊥

-- ---- from a line and an image to a case

-- the words are a line, and the image that it asks for is that of the case
pub record LoadsForAnswers (call : AnswersCall) (c : CaseData) : Type 0 where
  pub settings : AnswersLineData
  pub line_is : call.said ≡ Some settings
  pub loads : LoadsBy settings.case call.image c

-- the words are a line, and the image that it asks for is refused by this number
pub record RefusesForAnswers (call : AnswersCall) (number : ℕ) : Type 0 where
  pub settings : AnswersLineData
  pub line_is : call.said ≡ Some settings
  pub refused : IsBadImage settings.case call.image number

-- a case is loaded, and the work on it may end so
pub record EndsOnAnswers (tells : Type 0) (call : AnswersCall) (answer : Status) : Type 0 where
  pub case : CaseData
  pub loads : LoadsForAnswers call case
  pub ends : IsAnswersEnd tells call.file case answer

-- ---- answers

-- The cause of each answer, by the words, the image, and the campaign file where its device tells it. Of the causes of Usage, BadImage,
-- BadGolden, BadKeep and Done no two hold at once where the device tells, so each of these comes exactly where its cause holds, unless a
-- device fails or memory runs out.
abbrev pub IsAnswersCause : Type 0 → AnswersCall → Status → Type 0
IsAnswersCause tells call status.Usage = call.said ≡ None
IsAnswersCause tells call status.ReadFault = call.said ≢ None
IsAnswersCause tells call (status.BadImage number) = RefusesForAnswers call number
IsAnswersCause tells call status.NoMemory = Unit {0}
IsAnswersCause tells call answer = EndsOnAnswers tells call answer

-- the call answers for the words, the image and the campaign file alone, and not for a device or for memory
abbrev pub IsAnswersOwn : Status → Type 0
IsAnswersOwn status.ReadFault = ⊥
IsAnswersOwn status.KeepFault = ⊥
IsAnswersOwn status.WriteFault = ⊥
IsAnswersOwn status.NoMemory = ⊥
IsAnswersOwn answer = Unit {0}
