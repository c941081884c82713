-- Which words are a line of `fail_answers`, and what it says.
use Rattle.std.specs.Prelude.{ℕ, List, Option, option_and_then, option_map}
use Rattle.fs_model.specs.declared.outcomes.Outcome.{Outcome}
use Rattle.command_line.specs.Chosen.{chosen_said, workers_said}
use Rattle.command_line.specs.Commands.{Text}
use Rattle.command_line.specs.Line.{given_after}
use Rattle.command_line.specs.Ranges.{answers_files}
use Rattle.command_line.specs.Said.{CaseLineData, Texts, case_of, case_said}
use Rattle.command_line.specs.declared.answers.AnswersLine.{AnswersLine}
use Rattle.command_line.specs.declared.commands.OptionSet.TheVariants.{OfAnswers}

-- IMAGE and KEEP with the options of the case, how many workers run the jobs, and the outcomes of the jobs that are run
pub record AnswersLineData : Type 0 where
  pub case : CaseLineData
  pub workers : ℕ
  pub chosen : List Outcome

abbrev pub answers_data : AnswersLine → AnswersLineData
answers_data l = record { case = case_of l.case; workers = l.workers; chosen = l.chosen.items }

-- what the words of the files and the texts of the options say
abbrev pub answers_said : List Text → Texts → Option AnswersLineData
answers_said files given =
    option_and_then (λ case.
    option_and_then (λ workers.
    option_map (λ chosen. record { case = case; workers = workers; chosen = chosen })
    (chosen_said given))
    (workers_said given))
    (case_said OfAnswers files given)

-- what the words say, the program's name first, if they are a line: IMAGE and KEEP, and then the options
abbrev pub answers_line : List Text → Option AnswersLineData
answers_line words = option_and_then (λ asked. answers_said asked.0 asked.1) (given_after OfAnswers 1 answers_files words)
