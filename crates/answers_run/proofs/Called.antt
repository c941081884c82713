-- What the work on a case ends with, in the words of the call.
use Rattle.std.proofs.Common.{◌≡◌, ◌⊎◌, inl, ℕ, List, Some, None, Ok, refl, subst, false}
use Rattle.std.specs.Prelude.{Option}
use Rattle.fs_model.specs.declared.outcomes.Outcome.{Outcome}
use Rattle.fs_model.specs.Case.{CaseData}
use Rattle.result_keeper.specs.Acceptance.{accept}
use Rattle.command_line.specs.Answers.{AnswersLineData}
use Rattle.phases.specs.Baselines.{Halts}
use Rattle.phases.specs.Loading.{IsImageCause, LoadsBy}
use Rattle.phases.specs.Opening.{IsUnopened}
use Rattle.phases.specs.Status.{IsWriting, is_read_fault}
use Rattle.phases.specs.declared.status.Status.{Status}
use Rattle.phases.specs.declared.status.Status.TheVariants as status
use Rattle.phases.proofs.Outputs.{IsSilent}
use Rattle.answers_run.specs.Answered.{AsksForText, IsAnswersRun}
use Rattle.answers_run.specs.AnswersCall.{AnswersCall}
use Rattle.answers_run.specs.AnswersCauses.{IsAnswersCause, IsAnswersEnd, LoadsForAnswers}
use Rattle.answers_run.specs.AnswersStory.{IsAnswersOf}

-- ---- on a case

pub from_board : (tells : Type 0) (file : List ℕ) (c : CaseData) (board : List (Option Outcome)) (answer : Status) → Halts c → (tells → accept file c ≡ Ok board) → IsWriting answer
    → IsAnswersEnd tells file c answer
from_board tells file c board status.Done halts opened writing = (halts, λ told. record { board = board; opened = opened told })
from_board tells file c board status.WriteFault halts opened writing = (halts, λ told. record { board = board; opened = opened told })
from_board tells file c board status.NoMemory halts opened writing = tt
from_board tells file c board answer halts opened writing = absurd writing

pub from_unopened : (tells : Type 0) (file : List ℕ) (c : CaseData) (answer : Status) → IsUnopened tells file c answer → IsAnswersEnd tells file c answer
from_unopened tells file c (status.BadGolden fault) why = why
from_unopened tells file c status.KeepFault why = why
from_unopened tells file c (status.BadKeep refusal) why = why
from_unopened tells file c status.NoMemory why = tt
from_unopened tells file c answer why = absurd why

pub unopened_is_silent : (tells : Type 0) (file : List ℕ) (c : CaseData) (answer : Status) → IsUnopened tells file c answer → IsSilent answer
unopened_is_silent tells file c (status.BadGolden fault) why = tt
unopened_is_silent tells file c status.KeepFault why = tt
unopened_is_silent tells file c (status.BadKeep refusal) why = tt
unopened_is_silent tells file c status.NoMemory why = tt
unopened_is_silent tells file c answer why = absurd why

pub end_reads : (tells : Type 0) (file : List ℕ) (c : CaseData) (answer : Status) → IsAnswersEnd tells file c answer → is_read_fault answer ≡ false
end_reads tells file c status.ReadFault ends = absurd ends
end_reads tells file c answer ends = refl

pub end_usage : (tells : Type 0) (file : List ℕ) (c : CaseData) → IsAnswersEnd tells file c status.Usage → ⊥
end_usage tells file c ends = ends

-- ---- of a call

module _ (call : AnswersCall) (line : AnswersLineData) (line_is : call.said ≡ Some line) where
  pub some_line : call.said ≡ None → ⊥
  some_line none = cc

  pub image_cause : (tells : Type 0) (answer : Status) → IsImageCause line.case call.image answer → IsAnswersCause tells call answer
  image_cause tells (status.BadImage number) why = record { settings = line; line_is = line_is; refused = why }
  image_cause tells status.ReadFault why = λ none. some_line none
  image_cause tells status.NoMemory why = tt
  image_cause tells answer why = absurd why

  module _ (c : CaseData) (loaded : LoadsBy line.case call.image c) where
    abbrev pub loads : LoadsForAnswers call c
    loads = record { settings = line; line_is = line_is; loads = loaded }

    pub case_cause : (tells : Type 0) (answer : Status) → IsAnswersEnd tells call.file c answer → IsAnswersCause tells call answer
    case_cause tells status.Usage ends = absurd ends
    case_cause tells status.ReadFault ends = absurd ends
    case_cause tells (status.BadImage number) ends = absurd ends
    case_cause tells status.NoMemory ends = tt
    case_cause tells answer ends = record { case = c; loads = loads; ends = ends }

    pub asks_for : (text : List ℕ) → IsAnswersOf call.file c line.chosen text → AsksForText call text
    asks_for text is = record { case = c; loads = loads; answers = is }

-- a call that ended before its case was loaded
pub unanswered : (tells_image tells_file tells_out : Type 0) (call : AnswersCall) (taken : List ℕ) (answer : Status) → IsSilent answer
    → (tells_image → IsAnswersCause tells_file call answer) → (answer ≡ status.Usage → call.said ≡ None) → (call.said ≡ None → (answer ≡ status.Usage) ⊎ (answer ≡ status.NoMemory))
    → IsAnswersRun tells_image tells_file tells_out call taken taken answer
unanswered tells_image tells_file tells_out call taken answer silent cause usage no_line = record {
  cause = cause;
  usage = usage;
  no_line = no_line;
  said = λ image file out done. absurd (subst IsSilent done silent);
  part = λ image file out failed. absurd (subst IsSilent failed silent);
  short = λ image file out short. inl refl;
}
