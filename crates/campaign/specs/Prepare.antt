-- Why a campaign is not made ready.
use Rattle.std.specs.Prelude.{◌≡◌, ℕ, Bool, true, false, List, Result, Ok, Err}
use Rattle.result_keeper.specs.Acceptance.{accept}
use Rattle.fs_model.specs.Case.{CaseData}
use Rattle.campaign.specs.declared.ready.PrepareRefusal.{PrepareRefusal}
use Rattle.campaign.specs.declared.ready.PrepareRefusal.TheVariants.{KeepFault, Refused, NoMemory}

-- a file is refused only for what it holds, and never if it is started again
abbrev pub IsRefusedUnless : Bool → List ℕ → CaseData → PrepareRefusal → Type 0
IsRefusedUnless fresh file c KeepFault = Unit {0}
IsRefusedUnless fresh file c (Refused refusal) = (fresh ≡ false) × (accept file c ≡ Err refusal)
IsRefusedUnless fresh file c NoMemory = Unit {0}

-- the answer says that the disk failed
abbrev pub is_fault : {T : Type 0} → Result T PrepareRefusal → Bool
is_fault (Ok value) = false
is_fault (Err KeepFault) = true
is_fault (Err (Refused refusal)) = false
is_fault (Err NoMemory) = false

-- whatever the refusal but a fault of the disk, it reads as before
abbrev pub IsUntouched : List ℕ → List ℕ → PrepareRefusal → Type 0
IsUntouched old new KeepFault = Unit {0}
IsUntouched old new (Refused refusal) = new ≡ old
IsUntouched old new NoMemory = new ≡ old
