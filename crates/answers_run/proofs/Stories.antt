-- What was written, by how the call ended.
use Rattle.std.proofs.Common.{◌≡◌, ◌⊎◌, inl, inr, ⊎_elim, ℕ, List, ◌++◌, refl, ◌∙◌}
use Rattle.fs_outside.specs.Faults.{Rises}
use Rattle.fs_outside.specs.Writing.{TookPart}
use Rattle.phases.specs.Output.{IsText, Wrote, WrotePart}
use Rattle.phases.specs.declared.status.Status.{Status}
use Rattle.phases.specs.declared.status.Status.TheVariants as status
use Rattle.phases.proofs.Outputs.{IsSilent}
use Rattle.answers_run.specs.AnswersStory.{AnswersStory}

module _ {T : Type 0} (tells : Type 0) (taken : T → List ℕ) (faults : T → ℕ) where
  -- all of a text was taken
  pub done_answers : (text : List ℕ) (old new : T) → (tells → taken new ≡ taken old ++ text) → faults new ≡ faults old → AnswersStory tells taken faults (IsText text) old new status.Done
  done_answers text old new bytes same = record {
    whole = λ told done. record { text = text; says = refl; written = bytes told };
    part = λ told failed. absurd (cc);
    short = λ told short. absurd (cc);
    nothing = λ not_done not_failed not_short. absurd (not_done refl);
    cause = same;
  }

  -- a part of it was taken, and the output failed,
  pub failed_answers : (text : List ℕ) (old new : T) → (tells → TookPart (taken old) (taken new) text) → Rises (faults old) (faults new)
      → AnswersStory tells taken faults (IsText text) old new status.WriteFault
  failed_answers text old new bytes rises = record {
    whole = λ told done. absurd (cc);
    part = λ told failed. record { text = text; says = refl; written = bytes told };
    short = λ told short. absurd (cc);
    nothing = λ not_done not_failed not_short. absurd (not_failed refl);
    cause = rises;
  }

  -- or there was no memory
  pub short_answers : (text : List ℕ) (old new : T) → (tells → TookPart (taken old) (taken new) text) → faults new ≡ faults old → AnswersStory tells taken faults (IsText text) old new status.NoMemory
  short_answers text old new bytes same = record {
    whole = λ told done. absurd (cc);
    part = λ told failed. absurd (cc);
    short = λ told short. inr (record { text = text; says = refl; written = bytes told });
    nothing = λ not_done not_failed not_short. absurd (not_short refl);
    cause = same;
  }

  -- nothing was written
  pub silent_answers : (Says : List ℕ → Type 0) (old : T) (answer : Status) → IsSilent answer → AnswersStory tells taken faults Says old old answer
  silent_answers Says old status.Done silent = absurd silent
  silent_answers Says old status.WriteFault silent = absurd silent
  silent_answers Says old answer silent = record {
    whole = λ told done. absurd (cc);
    part = λ told failed. absurd (cc);
    short = λ told short. inl refl;
    nothing = λ not_done not_failed not_short. refl;
    cause = refl;
  }

-- the same in other words, which need hold only where the devices tell their bytes
module _ (Says Says' : List ℕ → Type 0) (words : (text : List ℕ) → Says text → Says' text) (old new : List ℕ) where
  pub rewrote : Wrote Says old new → Wrote Says' old new
  rewrote wrote = record { text = wrote.text; says = words wrote.text wrote.says; written = wrote.written }

  pub rewrote_part : WrotePart Says old new → WrotePart Says' old new
  rewrote_part wrote = record { text = wrote.text; says = words wrote.text wrote.says; written = wrote.written }

  pub rewrote_short : (new ≡ old) ⊎ WrotePart Says old new → (new ≡ old) ⊎ WrotePart Says' old new
  rewrote_short short = ⊎_elim (λ same. inl same) (λ (wrote : WrotePart Says old new). inr (rewrote_part wrote)) short

pub reworded_answers : {T : Type 0} (tells tells' : Type 0) (taken : T → List ℕ) (faults : T → ℕ) (Says Says' : List ℕ → Type 0) (old new : T) (answer : Status)
    → (tells' → tells) → (tells' → (text : List ℕ) → Says text → Says' text) → AnswersStory tells taken faults Says old new answer → AnswersStory tells' taken faults Says' old new answer
reworded_answers tells tells' taken faults Says Says' old new answer told_so words story = record {
  whole = λ told done. rewrote Says Says' (words told) (taken old) (taken new) (story.whole (told_so told) done);
  part = λ told failed. rewrote_part Says Says' (words told) (taken old) (taken new) (story.part (told_so told) failed);
  short = λ told short. rewrote_short Says Says' (words told) (taken old) (taken new) (story.short (told_so told) short);
  nothing = story.nothing;
  cause = story.cause;
}

-- the text has another form
pub said_so_answers : {T : Type 0} (tells : Type 0) (taken : T → List ℕ) (faults : T → ℕ) (text text' : List ℕ) (old new : T) (answer : Status) → text ≡ text'
    → AnswersStory tells taken faults (IsText text) old new answer → AnswersStory tells taken faults (IsText text') old new answer
said_so_answers tells taken faults text text' old new answer same =
    reworded_answers tells tells taken faults (IsText text) (IsText text') old new answer (λ told. told) (λ told said is. is ∙ same)
