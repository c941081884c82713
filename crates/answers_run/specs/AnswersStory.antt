-- What a call of `fail_answers` did to its output.
use Rattle.std.specs.Prelude.{◌≡◌, ◌≢◌, ◌⊎◌, ℕ, List, Option, Ok}
use Rattle.fs_model.specs.declared.outcomes.Outcome.{Outcome}
use Rattle.fs_model.specs.Case.{CaseData}
use Rattle.fs_outside.specs.Faults.{IsCaused}
use Rattle.result_keeper.specs.Acceptance.{accept}
use Rattle.answer_pages.specs.Text.{answers_text}
use Rattle.phases.specs.Output.{Wrote, WrotePart}
use Rattle.phases.specs.Status.{is_write_fault}
use Rattle.phases.specs.declared.status.Status.{Status}
use Rattle.phases.specs.declared.status.Status.TheVariants as status

-- The text has the lines of the jobs of the case that the file records with one of these outcomes.
pub record IsAnswersOf (file : List ℕ) (c : CaseData) (chosen : List Outcome) (text : List ℕ) : Type 0 where
  pub board : List (Option Outcome)
  pub opened : accept file c ≡ Ok board
  pub text_is : text ≡ answers_text c board chosen

-- The output of a call that says such a text, where the output tells its bytes: it took all of the text where the call is done, a part
-- where the output failed, nothing or a part where there was no memory, and nothing with any other answer.
pub record AnswersStory {T : Type 0} (tells : Type 0) (taken : T → List ℕ) (faults : T → ℕ) (Says : List ℕ → Type 0) (old new : T)
    (answer : Status) : Type 0 where
  pub whole : tells → answer ≡ status.Done → Wrote Says (taken old) (taken new)
  pub part : tells → answer ≡ status.WriteFault → WrotePart Says (taken old) (taken new)
  pub short : tells → answer ≡ status.NoMemory → (taken new ≡ taken old) ⊎ WrotePart Says (taken old) (taken new)
  pub nothing : answer ≢ status.Done → answer ≢ status.WriteFault → answer ≢ status.NoMemory → new ≡ old
  pub cause : IsCaused (is_write_fault answer) (faults old) (faults new)
