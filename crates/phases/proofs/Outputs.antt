-- What a command did to its output: it wrote a text, or nothing, or what another said in other words.
use Rattle.std.proofs.Common.{◌≡◌, ℕ, List, ◌++◌, Result, Ok, Err, false, refl, ◌∙◌}
use Rattle.fs_outside.specs.Faults.{IsCaused, Rises}
use Rattle.fs_outside.specs.Writing.{TookPart, Writes}
use Rattle.report.specs.declared.refusal.ReportRefusal.{ReportRefusal}
use Rattle.report.specs.declared.refusal.ReportRefusal.TheVariants as refusal
use Rattle.report.specs.Refusal.{is_failed}
use Rattle.phases.specs.Failures.{of_report, status_for}
use Rattle.phases.specs.Output.{IsText, OutputStory}
use Rattle.phases.specs.Status.{IsImageStatus, IsWriting, is_keep_fault, is_other_fault, is_store_fault, is_write_fault}
use Rattle.phases.specs.declared.status.Status.{Status}
use Rattle.phases.specs.declared.status.Status.TheVariants as status

-- how a command ends that had only this to write
abbrev pub status_by : {T : Type 0} → Result T ReportRefusal → Status
status_by (Ok value) = status.Done
status_by (Err why) = status_for (of_report why)

-- a text was written, or not
pub written_story : {T R : Type 0} (tells : Type 0) (taken : T → List ℕ) (faults : T → ℕ) (text : List ℕ) (old new : T) (result : Result R ReportRefusal)
    → (tells → Writes (taken old) (taken new) text result) → IsCaused (is_failed result) (faults old) (faults new) → (result ≡ Err refusal.NoMemory → new ≡ old)
    → OutputStory tells taken faults (IsText text) old new (status_by result)
written_story tells taken faults text old new (Ok value) bytes cause nothing = record {
  whole = λ told done. record { text = text; says = refl; written = bytes told };
  part = λ told failed. absurd (cc);
  nothing = λ not_done not_failed. absurd (not_done refl);
  cause = cause;
}
written_story tells taken faults text old new (Err refusal.Failed) bytes cause nothing = record {
  whole = λ told done. absurd (cc);
  part = λ told failed. record { text = text; says = refl; written = bytes told };
  nothing = λ not_done not_failed. absurd (not_failed refl);
  cause = cause;
}
written_story tells taken faults text old new (Err refusal.NoMemory) bytes cause nothing = record {
  whole = λ told done. absurd (cc);
  part = λ told failed. absurd (cc);
  nothing = λ not_done not_failed. nothing refl;
  cause = cause;
}

-- the command ended before it wrote
abbrev pub IsSilent : Status → Type 0
IsSilent status.Done = ⊥
IsSilent status.WriteFault = ⊥
IsSilent answer = Unit {0}

pub silent_story : {T : Type 0} (tells : Type 0) (taken : T → List ℕ) (faults : T → ℕ) (Says : List ℕ → Type 0) (old : T) (answer : Status) → IsSilent answer
    → OutputStory tells taken faults Says old old answer
silent_story tells taken faults Says old status.Done silent = absurd silent
silent_story tells taken faults Says old status.WriteFault silent = absurd silent
silent_story tells taken faults Says old answer silent = record {
  whole = λ told done. absurd (cc);
  part = λ told failed. absurd (cc);
  nothing = λ not_done not_failed. refl;
  cause = refl;
}

-- the same in other words, which need hold only where the output tells its bytes
pub reworded : {T : Type 0} (tells tells' : Type 0) (taken : T → List ℕ) (faults : T → ℕ) (Says Says' : List ℕ → Type 0) (old new : T) (answer : Status)
    → (tells' → tells) → (tells' → (text : List ℕ) → Says text → Says' text) → OutputStory tells taken faults Says old new answer → OutputStory tells' taken faults Says' old new answer
reworded tells tells' taken faults Says Says' old new answer told_so words story = record {
  whole = λ told done. let wrote = story.whole (told_so told) done in record { text = wrote.text; says = words told wrote.text wrote.says; written = wrote.written };
  part = λ told failed. let wrote = story.part (told_so told) failed in record { text = wrote.text; says = words told wrote.text wrote.says; written = wrote.written };
  nothing = story.nothing;
  cause = story.cause;
}

-- the text has another form
pub said_so : {T : Type 0} (tells : Type 0) (taken : T → List ℕ) (faults : T → ℕ) (text text' : List ℕ) (old new : T) (answer : Status) → text ≡ text'
    → OutputStory tells taken faults (IsText text) old new answer → OutputStory tells taken faults (IsText text') old new answer
said_so tells taken faults text text' old new answer same = reworded tells tells taken faults (IsText text) (IsText text') old new answer (λ told. told) (λ told said is. is ∙ same)

-- all of a text was taken, or a part of it and the output failed
pub done_story : {T : Type 0} (tells : Type 0) (taken : T → List ℕ) (faults : T → ℕ) (text : List ℕ) (old new : T) → (tells → taken new ≡ taken old ++ text) → faults new ≡ faults old
    → OutputStory tells taken faults (IsText text) old new status.Done
done_story tells taken faults text old new bytes same = record {
  whole = λ told done. record { text = text; says = refl; written = bytes told };
  part = λ told failed. absurd (cc);
  nothing = λ not_done not_failed. absurd (not_done refl);
  cause = same;
}

pub failed_story : {T : Type 0} (tells : Type 0) (taken : T → List ℕ) (faults : T → ℕ) (text : List ℕ) (old new : T) → (tells → TookPart (taken old) (taken new) text) → Rises (faults old) (faults new)
    → OutputStory tells taken faults (IsText text) old new status.WriteFault
failed_story tells taken faults text old new bytes rises = record {
  whole = λ told done. absurd (cc);
  part = λ told failed. record { text = text; says = refl; written = bytes told };
  nothing = λ not_done not_failed. absurd (not_failed refl);
  cause = rises;
}

-- an image that was refused, and work that only wrote, are silent, and tell no fault of a campaign file
pub image_silent : (answer : Status) → IsImageStatus answer → IsSilent answer
image_silent status.ReadFault is = tt
image_silent (status.BadImage n) is = tt
image_silent status.NoMemory is = tt
image_silent answer is = absurd is

pub image_keeps : (answer : Status) → IsImageStatus answer → is_keep_fault answer ≡ false
image_keeps status.ReadFault is = refl
image_keeps (status.BadImage n) is = refl
image_keeps status.NoMemory is = refl
image_keeps answer is = absurd is

pub image_writes : (answer : Status) → IsImageStatus answer → is_write_fault answer ≡ false
image_writes status.ReadFault is = refl
image_writes (status.BadImage n) is = refl
image_writes status.NoMemory is = refl
image_writes answer is = absurd is

pub image_stores : (answer : Status) → IsImageStatus answer → is_store_fault answer ≡ false
image_stores status.ReadFault is = refl
image_stores (status.BadImage n) is = refl
image_stores status.NoMemory is = refl
image_stores answer is = absurd is

pub image_others : (answer : Status) → IsImageStatus answer → is_other_fault answer ≡ false
image_others status.ReadFault is = refl
image_others (status.BadImage n) is = refl
image_others status.NoMemory is = refl
image_others answer is = absurd is

pub writing_keeps : (answer : Status) → IsWriting answer → is_keep_fault answer ≡ false
writing_keeps status.Done writing = refl
writing_keeps status.WriteFault writing = refl
writing_keeps status.NoMemory writing = refl
writing_keeps answer writing = absurd writing
