-- What a call ends with, by its words, its image and how the work on its part ended.
use Rattle.std.proofs.Common.{◌≡◌, ◌≢◌, ◌⊎◌, inl, inr, ⊎_elim, ℕ, ◌++◌, Bool, false, List, Option, Some, None, Ok, refl, ap, subst, ◌∙◌}
use Rattle.std.proofs.Math.Path.{fun_ext}
use Rattle.fs_outside.specs.Past.{Past, content, IsImage}
use Rattle.fs_model.specs.Case.{CaseData}
use Rattle.elf_symbols.specs.declared.tables.Symbol.{Symbol}
use Rattle.command_line.specs.Window.{WindowLineData}
use Rattle.phases.specs.Loading.{IsImageCause, LoadsBy}
use Rattle.phases.specs.Status.{IsImageStatus, is_read_fault}
use Rattle.phases.specs.declared.status.Status.{Status}
use Rattle.phases.specs.declared.status.Status.TheVariants as status
use Rattle.phases.specs.Output.{Wrote, WrotePart}
use Rattle.phases.proofs.Outputs.{IsSilent, image_silent}
use Rattle.kept_commands.proofs.Crashes.{nothing, retold}
use Rattle.kept_commands.proofs.Trusted.{open_long}
use Rattle.window_run.specs.Answered.{CountsPart, EndsOfPart, IsLeftByWindow, IsRunInWindow, ReportsPartOf, ReportsPiece, TrustsFile, WindowCallStory, WindowEnds}
use Rattle.window_run.specs.Call.{WindowCall, loaded_call}
use Rattle.window_run.specs.Causes.{IsCauseInWindow, IsPartCause, IsSymbolRefusal, LoadsPart, WrongImage, WrongSymbols, symbols_named}
use Rattle.window_run.specs.Crash.{IsLeftInPart, PartEnds, PartStory}
use Rattle.window_run.specs.Says.{PartOutput, PartSays, window_report}
use Rattle.window_run.specs.declared.status.WindowStatus.{WindowStatus}
use Rattle.window_run.specs.declared.status.WindowStatus.TheVariants.{Ended, Empty}
use Rattle.window_run.proofs.Clipped.{filled_counts}

-- ---- a case was loaded

module _ (line : WindowLineData) (image file : List ℕ) (symbols : List Symbol) (c : CaseData) where
  abbrev pub loads : LoadsBy line.case image c → symbols_named line.part.function image ≡ Ok symbols → LoadsPart (loaded_call line image file) c
  loads loaded are = record { settings = line; line_is = refl; loads = loaded; symbols = symbols; symbols_are = are }

  pub of_part : (tells : Type 0) (answer : WindowStatus) → LoadsBy line.case image c → symbols_named line.part.function image ≡ Ok symbols → IsPartCause tells line symbols file c answer
      → IsCauseInWindow tells (loaded_call line image file) answer
  of_part tells (Ended status.Usage) loaded are cause = absurd cause.ends
  of_part tells (Ended status.ReadFault) loaded are cause = absurd cause.ends
  of_part tells (Ended (status.BadImage number)) loaded are cause = absurd cause.ends
  of_part tells (Ended status.NoMemory) loaded are cause = tt
  of_part tells (Ended answer) loaded are cause = record { case = c; loads = loads loaded are; cause = cause }
  of_part tells (Empty why) loaded are cause = record { case = c; loads = loads loaded are; cause = cause }

  -- ---- the counts

  pub counts_part : (before after : List ℕ) → LoadsBy line.case image c → symbols_named line.part.function image ≡ Ok symbols → Wrote (PartSays line symbols file c) before after
      → TrustsFile (loaded_call line image file) → CountsPart (loaded_call line image file) before after
  counts_part before after loaded are wrote trusts =
      let said = wrote.says in
      let board = said.says.0 in
      let opened = said.says.1 in
      let right = trusts c (loads loaded are) board opened in
      record {
        case = c;
        loads = loads loaded are;
        window = said.window;
        part = said.part;
        written = wrote.written
            ∙ ap (λ (text : List ℕ). before ++ text)
            (said.says.2 ∙ ap (window_report line.running.format c said.window) (fun_ext (filled_counts c said.window board (open_long c false file board opened) right)));
      }

  -- ---- the story

  call_ends : (old new : Past) (answer : Status) → LoadsBy line.case image c → symbols_named line.part.function image ≡ Ok symbols → PartEnds line symbols c old new answer
      → WindowEnds (loaded_call line image file) old new answer
  call_ends old new status.Done loaded are ends = record { case = c; loads = loads loaded are; ends = ends }
  call_ends old new status.WriteFault loaded are ends = record { case = c; loads = loads loaded are; ends = ends }
  call_ends old new (status.Stopped kept jobs) loaded are ends = record { case = c; loads = loads loaded are; ends = ends }
  call_ends old new status.KeepFault loaded are ends = record { case = c; loads = loads loaded are; ends = ends }
  call_ends old new status.NoMemory loaded are ends = inr (record { case = c; loads = loads loaded are; ends = ends })
  call_ends old new answer loaded are ends = tt

  pub call_story : (tells : Type 0) (old new : Past) (answer : WindowStatus) → (tells → LoadsBy line.case image c) → (tells → symbols_named line.part.function image ≡ Ok symbols)
      → PartStory line symbols c old new answer → WindowCallStory tells (loaded_call line image file) old new answer
  call_story tells old new (Ended answer) loaded are story =
      retold (Unit {0}) (Unit {0}) (Unit {0}) (Unit {0}) ⊥ ⊥ (Unit {0}) (Unit {0})
      (λ sure image. IsImage old image ⊎ IsLeftInPart sure line symbols c old image) (λ sure left. IsImage old left ⊎ (tells → IsLeftByWindow sure (loaded_call line image file) old left))
      (PartEnds line symbols c old new answer) (tells → WindowEnds (loaded_call line image file) old new answer) old new answer
      (λ so. so) (λ so. so) (λ no. no) (λ goes. goes) (λ goes. goes)
      (λ sure left is. ⊎_elim (λ was. inl was) (λ (in_part : IsLeftInPart sure line symbols c old left). inr (λ told. record { case = c; loads = loads (loaded told) (are told); left = in_part })) is)
      (λ so ends told. call_ends old new answer (loaded told) (are told) ends) story
  call_story tells old new (Empty why) loaded are story = story

-- ---- a call that ended before its part

-- nothing was written, and nothing befell the file
pub unrun : (tells_image tells_file tells_out : Type 0) (call : WindowCall) (taken : List ℕ) (past : Past) (answer : Status) → IsSilent answer
    → (tells_image → IsCauseInWindow tells_file call (Ended answer)) → (answer ≡ status.Usage → call.said ≡ None)
    → (call.said ≡ None → (answer ≡ status.Usage) ⊎ (answer ≡ status.NoMemory)) → WindowEnds call past past answer
    → IsRunInWindow tells_image tells_file tells_out call taken taken past past (Ended answer)
unrun tells_image tells_file tells_out call taken past answer silent cause usage no_line ends = record {
  cause = cause;
  usage = λ is. usage (cc);
  no_line = λ none. ⊎_elim (λ is. inl (ap Ended is)) (λ is. inr (ap Ended is)) (no_line none);
  counts = λ image file out done trusts. let is : answer ≡ status.Done = cc in absurd (subst IsSilent is silent);
  report = λ image file out done. let is : answer ≡ status.Done = cc in absurd (subst IsSilent is silent);
  part = λ image file out failed. let is : answer ≡ status.WriteFault = cc in absurd (subst IsSilent is silent);
  story = λ told.
      nothing (Unit {0}) (Unit {0}) ⊥ (Unit {0}) (λ sure image. IsImage past image ⊎ (tells_image → IsLeftByWindow sure call past image)) (tells_image → WindowEnds call past past answer) past past answer refl
      (λ sure image was. inl was) (λ so image. ends);
}

-- what symbols are refused for is an answer of the image
pub symbols_image : (name : Option (List ℕ)) (bytes : List ℕ) (answer : Status) → IsSymbolRefusal name bytes answer → IsImageStatus answer
symbols_image name bytes (status.BadImage number) why = tt
symbols_image name bytes status.NoMemory why = tt
symbols_image name bytes answer why = absurd why

pub symbols_reads : (name : Option (List ℕ)) (bytes : List ℕ) (answer : Status) → IsSymbolRefusal name bytes answer → is_read_fault answer ≡ false
symbols_reads name bytes (status.BadImage number) why = refl
symbols_reads name bytes status.NoMemory why = refl
symbols_reads name bytes answer why = absurd why

module _ (line : WindowLineData) (image file : List ℕ) where
  pub some_line : {A : Type 0} → (let said : Option WindowLineData = Some line in said) ≡ None → A
  some_line none = absurd (cc)

  image_cause : (tells : Type 0) (answer : Status) → IsImageCause line.case image answer → IsCauseInWindow tells (loaded_call line image file) (Ended answer)
  image_cause tells (status.BadImage number) why = record { settings = line; line_is = refl; wrong = WrongImage why }
  image_cause tells status.ReadFault why = λ none. some_line none
  image_cause tells status.NoMemory why = tt
  image_cause tells answer why = absurd why

  image_ends : (past : Past) (answer : Status) → IsImageStatus answer → WindowEnds (loaded_call line image file) past past answer
  image_ends past status.ReadFault is = tt
  image_ends past (status.BadImage number) is = tt
  image_ends past status.NoMemory is = inl refl
  image_ends past answer is = absurd is

  -- its image was refused
  pub no_image : (tells_image tells_file tells_out : Type 0) (taken : List ℕ) (past : Past) (answer : Status) → IsImageStatus answer → (tells_image → IsImageCause line.case image answer)
      → IsRunInWindow tells_image tells_file tells_out (loaded_call line image file) taken taken past past (Ended answer)
  no_image tells_image tells_file tells_out taken past answer is why =
      unrun tells_image tells_file tells_out (loaded_call line image file) taken past answer (image_silent answer is) (λ told. image_cause tells_file answer (why told))
      (λ same. absurd (subst IsImageStatus same is)) (λ none. some_line none) (image_ends past answer is)

  symbols_cause : (tells : Type 0) (c : CaseData) (answer : Status) → LoadsBy line.case image c → IsSymbolRefusal line.part.function image answer
      → IsCauseInWindow tells (loaded_call line image file) (Ended answer)
  symbols_cause tells c (status.BadImage number) loaded (refusal, number_is, are) =
      record { settings = line; line_is = refl; wrong = WrongSymbols refusal number_is c loaded are }
  symbols_cause tells c status.NoMemory loaded why = tt
  symbols_cause tells c answer loaded why = absurd why

  -- its symbols were refused, which are those of the bytes that were read
  pub no_symbols : (tells_image tells_file tells_out : Type 0) (here : List ℕ) (c : CaseData) (taken : List ℕ) (past : Past) (answer : Status) → IsSymbolRefusal line.part.function here answer
      → (tells_image → LoadsBy line.case image c) → (tells_image → here ≡ image) → IsRunInWindow tells_image tells_file tells_out (loaded_call line image file) taken taken past past (Ended answer)
  no_symbols tells_image tells_file tells_out here c taken past answer why loaded same =
      let is = symbols_image line.part.function here answer why in
      unrun tells_image tells_file tells_out (loaded_call line image file) taken past answer (image_silent answer is)
      (λ told. symbols_cause tells_file c answer (loaded told) (subst (λ (b : List ℕ). IsSymbolRefusal line.part.function b answer) (same told) why))
      (λ usage. absurd (subst IsImageStatus usage is)) (λ none. some_line none) (image_ends past answer is)
