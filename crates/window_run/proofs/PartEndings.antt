-- How the work on a part ends, by how the work on its window ended.
use Rattle.std.proofs.Common.{◌≡◌, ◌⊎◌, inl, inr, ℕ, Bool, false, List, Option, refl, ap, subst}
use Rattle.fs_outside.specs.Past.{Past, content, IsImage}
use Rattle.fs_model.specs.Case.{CaseData}
use Rattle.elf_symbols.specs.declared.tables.Symbol.{Symbol}
use Rattle.window_parts.specs.declared.parts.NoPart.{NoPart}
use Rattle.window_parts.specs.Parts.{IsPartWindow}
use Rattle.command_line.specs.Window.{WindowLineData}
use Rattle.phases.specs.Baselines.{Halts, HasNoBaseline}
use Rattle.phases.specs.Output.{OutputStory}
use Rattle.phases.specs.Status.{is_keep_fault, is_read_fault}
use Rattle.phases.specs.declared.status.Status.{Status}
use Rattle.phases.specs.declared.status.Status.TheVariants as status
use Rattle.phases.proofs.Outputs.{IsSilent, silent_story}
use Rattle.kept_commands.specs.Crash.{IsCutOff, IsWorkedOn}
use Rattle.kept_commands.proofs.Crashes.{nothing, retold}
use Rattle.window_run.specs.Causes.{EndsOnPart, IsPartCause}
use Rattle.window_run.specs.Crash.{EndsInPart, IsLeftInPart, KeepsDueAtEnd, PartEnds, PartStory, WindowStory}
use Rattle.window_run.specs.Ends.{IsWindowEnd, window_batches}
use Rattle.window_run.specs.Says.{PartOutput, WindowSays}
use Rattle.window_run.specs.WindowStatus.{is_ended_by}
use Rattle.window_run.specs.declared.status.WindowStatus.{WindowStatus}
use Rattle.window_run.specs.declared.status.WindowStatus.TheVariants.{Ended, Empty}

module _ (line : WindowLineData) (symbols : List Symbol) (c : CaseData) where
  -- ---- causes

  pub of_window : (tells : Type 0) (file : List ℕ) (window : List Bool) (answer : Status) → Halts c → IsPartWindow line.part symbols c window
      → IsWindowEnd tells line.running.stop_after window file c answer → IsPartCause tells line symbols file c (Ended answer)
  of_window tells file window (status.BadGolden fault) halts part ends = absurd ends
  of_window tells file window status.NoMemory halts part ends = tt
  of_window tells file window answer halts part ends = record { halts = halts; window = window; part = part; ends = ends }

  pub no_baseline : (tells : Type 0) (file : List ℕ) (answer : Status) → HasNoBaseline c answer → IsPartCause tells line symbols file c (Ended answer)
  no_baseline tells file (status.BadGolden fault) why = why
  no_baseline tells file status.NoMemory why = tt
  no_baseline tells file answer why = absurd why

  -- the words were a line, and the image was read
  pub part_usage : (tells : Type 0) (file : List ℕ) → IsPartCause tells line symbols file c (Ended status.Usage) → ⊥
  part_usage tells file cause = cause.ends

  pub part_reads : (tells : Type 0) (file : List ℕ) (answer : WindowStatus) → IsPartCause tells line symbols file c answer → is_ended_by is_read_fault answer ≡ false
  part_reads tells file (Ended status.ReadFault) cause = absurd cause.ends
  part_reads tells file (Ended answer) cause = refl
  part_reads tells file (Empty why) cause = refl

  -- ---- the story

  part_ends : (window : List Bool) (old now : Past) (answer : Status) → IsPartWindow line.part symbols c window
      → KeepsDueAtEnd (IsCutOff false (window_batches line.running window c) c old now) (content now ≡ content old) window c now answer → PartEnds line symbols c old now answer
  part_ends window old now status.Done part end = record { window = window; part = part; keeps = end }
  part_ends window old now status.WriteFault part end = record { window = window; part = part; keeps = end }
  part_ends window old now (status.Stopped kept jobs) part end = record { window = window; part = part; keeps = end }
  part_ends window old now status.KeepFault part end = record { window = window; part = part; keeps = end }
  part_ends window old now status.NoMemory part end = inr (record { window = window; part = part; keeps = end })
  part_ends window old now answer part end = tt

  pub part_story : (window : List Bool) (old new : Past) (answer : Status) → IsPartWindow line.part symbols c window → WindowStory (window_batches line.running window c) window c old new answer
      → PartStory line symbols c old new (Ended answer)
  part_story window old new answer part story =
      retold (Unit {0}) (Unit {0}) (Unit {0}) (Unit {0}) ⊥ ⊥ (Unit {0}) (Unit {0})
      (λ sure. IsWorkedOn sure false (window_batches line.running window c) c old) (λ sure image. IsImage old image ⊎ IsLeftInPart sure line symbols c old image)
      (KeepsDueAtEnd (IsCutOff false (window_batches line.running window c) c old new) (content new ≡ content old) window c new answer) (PartEnds line symbols c old new answer)
      old new answer
      (λ so. so) (λ so. so) (λ no. no) (λ goes. goes) (λ goes. goes) (λ sure image left. inr (record { window = window; part = part; left = left }))
      (λ so end. part_ends window old new answer part end) story

  -- nothing befell the file
  pub untouched_story : (old : Past) (answer : Status) → PartEnds line symbols c old old answer → PartStory line symbols c old old (Ended answer)
  untouched_story old answer ends =
      nothing (Unit {0}) (Unit {0}) ⊥ (Unit {0}) (λ sure image. IsImage old image ⊎ IsLeftInPart sure line symbols c old image) (PartEnds line symbols c old old answer) old old answer refl
      (λ sure image was. inl was) (λ so. ends)

  pub no_baseline_story : (old : Past) (answer : Status) → HasNoBaseline c answer → PartStory line symbols c old old (Ended answer)
  no_baseline_story old answer why = untouched_story old answer (by answer why)
    where
      by : (answer : Status) → HasNoBaseline c answer → PartEnds line symbols c old old answer
      by (status.BadGolden fault) why = tt
      by status.NoMemory why = inl refl
      by answer why = absurd why

  -- ---- the output

  module _ {T : Type 0} (tells tells_out : Type 0) (taken : T → List ℕ) (faults : T → ℕ) (file : List ℕ) where
    pub part_output : (window : List Bool) (old new : T) (answer : Status) → IsPartWindow line.part symbols c window
        → OutputStory (tells × tells_out) taken faults (WindowSays line.running.format window file c) old new answer
        → PartOutput tells tells_out taken faults line symbols file c old new (Ended answer)
    part_output window old new answer part story = record {
      whole = λ told out done.
          let is : answer ≡ status.Done = cc in
          let wrote = story.whole (told, out) is in
          record { text = wrote.text; says = record { window = window; part = part; says = wrote.says }; written = wrote.written };
      part = λ told out failed.
          let is : answer ≡ status.WriteFault = cc in
          let wrote = story.part (told, out) is in
          record { text = wrote.text; says = record { window = window; part = part; says = wrote.says }; written = wrote.written };
      nothing = λ not_done not_failed. story.nothing (λ is. not_done (ap Ended is)) (λ is. not_failed (ap Ended is));
      cause = story.cause;
    }

    -- nothing was written
    pub silent_output : (old : T) (answer : Status) → IsSilent answer → PartOutput tells tells_out taken faults line symbols file c old old (Ended answer)
    silent_output old answer silent =
        let story = silent_story tells_out taken faults (λ text. ⊥) old answer silent in
        record {
          whole = λ told out done. let is : answer ≡ status.Done = cc in absurd (subst IsSilent is silent);
          part = λ told out failed. let is : answer ≡ status.WriteFault = cc in absurd (subst IsSilent is silent);
          nothing = λ not_done not_failed. refl;
          cause = story.cause;
        }

    pub empty_output : (old : T) (why : NoPart) → PartOutput tells tells_out taken faults line symbols file c old old (Empty why)
    empty_output old why = record {
      whole = λ told out done. absurd (cc);
      part = λ told out failed. absurd (cc);
      nothing = λ not_done not_failed. refl;
      cause = refl;
    }
