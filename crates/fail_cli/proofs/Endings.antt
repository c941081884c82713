-- Which answers a part of the work gives, and which faults of a device these do not tell.
use Rattle.std.proofs.Common.{◌≡◌, ℕ, Bool, true, false, List, refl}
use Rattle.fs_model.specs.Case.{CaseData}
use Rattle.command_line.specs.Request.{RequestData}
use Rattle.phases.specs.Loading.{IsSymbolCause}
use Rattle.phases.specs.Status.{IsImageStatus, is_other_fault, is_read_fault, is_store_fault}
use Rattle.phases.specs.declared.status.Status.{Status}
use Rattle.phases.specs.declared.status.Status.TheVariants as status
use Rattle.kept_commands.specs.Keep.{IsKeepCause}
use Rattle.kept_commands.specs.Run.{Portion}
use Rattle.phases.specs.Commands.{IsCaseCause}
use Rattle.command_line.specs.declared.commands.Command.{Command}
use Rattle.kept_commands.specs.Causes.{IsWorkCause}
use Rattle.kept_commands.specs.Files.{Files}

-- of any command: it is not one of the words, nor of the image
module _ (tells told : Type 0) (settings : RequestData) (files : Files) (c : CaseData) where
  pub work_usage : (names others : Bool) → IsWorkCause names others tells told settings files c status.Usage → ⊥
  work_usage true false cause = cause
  work_usage true true cause = cause
  work_usage false others cause = cause

  pub work_reads : (names others : Bool) (answer : Status) → IsWorkCause names others tells told settings files c answer → is_read_fault answer ≡ false
  work_reads true false status.ReadFault cause = absurd cause
  work_reads true true status.ReadFault cause = absurd cause
  work_reads false others status.ReadFault cause = absurd cause
  work_reads names others answer cause = refl

  pub work_stores : (names others : Bool) (answer : Status) → IsWorkCause names others tells told settings files c answer → is_store_fault answer ≡ false
  work_stores true false status.StoreFault cause = absurd cause
  work_stores true true status.StoreFault cause = absurd cause
  work_stores false others status.StoreFault cause = absurd cause
  work_stores names others answer cause = refl

-- of a command that names no other file: it tells no fault of one
pub keep_others : (tells : Type 0) (fresh : Bool) (portion : Portion) (file : List ℕ) (c : CaseData) (answer : Status) → IsKeepCause tells fresh portion file c answer → is_other_fault answer ≡ false
keep_others tells fresh portion file c status.OtherFault cause = absurd cause
keep_others tells fresh portion file c answer cause = refl

pub case_others : (asked : Command) (c : CaseData) (answer : Status) → IsCaseCause asked c answer → is_other_fault answer ≡ false
case_others asked c status.OtherFault cause = absurd cause
case_others asked c answer cause = refl

-- an image's symbols are refused in the manner of the image, and for no fault of its source
pub symbols_of_image : (settings : RequestData) (bytes : List ℕ) (answer : Status) → IsSymbolCause settings bytes answer → IsImageStatus answer
symbols_of_image settings bytes (status.BadImage n) why = tt
symbols_of_image settings bytes status.NoMemory why = tt
symbols_of_image settings bytes answer why = absurd why

pub symbols_reads : (settings : RequestData) (bytes : List ℕ) (answer : Status) → IsSymbolCause settings bytes answer → is_read_fault answer ≡ false
symbols_reads settings bytes (status.BadImage n) why = refl
symbols_reads settings bytes status.NoMemory why = refl
symbols_reads settings bytes answer why = absurd why
