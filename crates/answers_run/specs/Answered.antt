-- What holds of each answer of a call of `fail_answers`, by its words, its image and its campaign file.
use Rattle.std.specs.Prelude.{◌≡◌, ◌⊎◌, ℕ, List, None}
use Rattle.fs_model.specs.Case.{CaseData}
use Rattle.phases.specs.Output.{Wrote, WrotePart}
use Rattle.phases.specs.declared.status.Status.{Status}
use Rattle.phases.specs.declared.status.Status.TheVariants as status
use Rattle.answers_run.specs.AnswersCall.{AnswersCall}
use Rattle.answers_run.specs.AnswersCauses.{IsAnswersCause, LoadsForAnswers}
use Rattle.answers_run.specs.AnswersStory.{IsAnswersOf}

-- The text that the words ask for: the lines of the jobs of the case which the campaign file records with a chosen outcome, in the order
-- of the jobs. A line has the outcome and the answer of the job's own run (`answer_line` of run_answers), whatever the file records.
pub record AsksForText (call : AnswersCall) (text : List ℕ) : Type 0 where
  pub case : CaseData
  pub loads : LoadsForAnswers call case
  pub answers : IsAnswersOf call.file case loads.settings.chosen text

-- A call had this answer. `before` and `after` are the bytes that its output took until the call began, and until it ended. Three types
-- say which devices tell their bytes: the image (`tells_image`), the campaign file (`tells_file`), and the output (`tells_out`).
pub record IsAnswersRun (tells_image tells_file tells_out : Type 0) (call : AnswersCall) (before after : List ℕ) (answer : Status) : Type 0 where
  -- An answer is given only if it has its cause.
  pub cause : tells_image → IsAnswersCause tells_file call answer
  -- Usage is given only if the words are no line, and then it is given, unless memory ran out.
  pub usage : answer ≡ status.Usage → call.said ≡ None
  pub no_line : call.said ≡ None → (answer ≡ status.Usage) ⊎ (answer ≡ status.NoMemory)
  -- Done: the output took exactly the text that the words ask for.
  pub said : tells_image → tells_file → tells_out → answer ≡ status.Done → Wrote (AsksForText call) before after
  -- WriteFault: it took a part of this text.
  pub part : tells_image → tells_file → tells_out → answer ≡ status.WriteFault → WrotePart (AsksForText call) before after
  -- NoMemory: it took nothing, or a part of this text.
  pub short : tells_image → tells_file → tells_out → answer ≡ status.NoMemory → (after ≡ before) ⊎ WrotePart (AsksForText call) before after
