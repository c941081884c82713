-- What a call of `fail_answers` is given, and what its error output is told.
use Rattle.std.specs.Prelude.{ℕ, List, Option, codes}
use Rattle.command_line.specs.Answers.{AnswersLineData, answers_line}
use Rattle.command_line.specs.Commands.{Text}
use Rattle.phases.specs.Status.{status_text}
use Rattle.phases.specs.declared.status.Status.{Status}
use Rattle.phases.specs.declared.status.Status.TheVariants as status

-- what the words say, if they are a line; the bytes of the image, and those of the campaign file
pub record AnswersCall : Type 0 where
  pub said : Option AnswersLineData
  pub image : List ℕ
  pub file : List ℕ

abbrev pub answers_call : List Text → List ℕ → List ℕ → AnswersCall
answers_call words image file = record { said = answers_line words; image = image; file = file }

-- what the error output is told: one line, or nothing where the answers were written
abbrev pub answers_told_text : Status → List ℕ
answers_told_text status.Usage = codes "usage: fail_answers IMAGE KEEP [options]\n"
answers_told_text answer = status_text answer
