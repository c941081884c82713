-- Which answers an opening gives, and why.
use Rattle.std.specs.Prelude.{◌≡◌, ◌⊎◌, ℕ, Bool, true, false, Option, None, List, [], Result, Ok, Err}
use Rattle.fs_model.specs.declared.outcomes.Outcome.{Outcome}
use Rattle.keep_format.specs.declared.header.Header.{Header}
use Rattle.fs_model.specs.Card.{card}
use Rattle.fs_model.specs.Case.{CaseData}
use Rattle.keep_format.specs.KeepFile.{card_of, header_of}
use Rattle.result_keeper.specs.Acceptance.{accept, difference}
use Rattle.result_keeper.specs.Keep.{RecordsBoard}
use Rattle.result_keeper.specs.declared.refusals.AdoptRefusal.{AdoptRefusal}
use Rattle.result_keeper.specs.declared.refusals.AdoptRefusal.TheVariants.{DiskFault, Refused, NoMemory}

-- a file whose header is this, and whose card is the case's
pub record IsOfCase (file : List ℕ) (c : CaseData) (header : Header) : Type 0 where
  pub is : header_of file ≡ Ok header
  pub same : difference (card_of file) (card c) ≡ None

-- it has a whole header, and the card of a case
abbrev pub HasCase : List ℕ → CaseData → Type 0
HasCase file c = (header : Header) × IsOfCase file c header

-- a file that is accepted for a case, the board that it gives, and the place of its closed gate
pub record IsAccepted (file : List ℕ) (c : CaseData) (board : List (Option Outcome)) (gate : ℕ) : Type 0 where
  pub accepted : accept file c ≡ Ok board
  pub records : RecordsBoard c board gate file

-- why a file is refused, where the disk did not fail
abbrev pub IsRefused : List ℕ → CaseData → AdoptRefusal → Type 0
IsRefused file c DiskFault = Unit {0}
IsRefused file c (Refused refusal) = accept file c ≡ Err refusal
IsRefused file c NoMemory = Unit {0}

-- the same, and no file that is started again is refused
abbrev pub IsRefusedUnless : Bool → List ℕ → CaseData → AdoptRefusal → Type 0
IsRefusedUnless fresh file c DiskFault = Unit {0}
IsRefusedUnless fresh file c (Refused refusal) = (fresh ≡ false) × (accept file c ≡ Err refusal)
IsRefusedUnless fresh file c NoMemory = Unit {0}

-- the file is started again
abbrev pub IsBegun : Bool → List ℕ → Type 0
IsBegun fresh file = (fresh ≡ true) ⊎ (file ≡ [])

-- the answer says that the disk failed
abbrev pub is_fault : {T : Type 0} → Result T AdoptRefusal → Bool
is_fault (Ok value) = false
is_fault (Err DiskFault) = true
is_fault (Err (Refused refusal)) = false
is_fault (Err NoMemory) = false

-- whatever the answer but a fault of the disk, it reads as before
abbrev pub IsUntouched : List ℕ → List ℕ → AdoptRefusal → Type 0
IsUntouched old new DiskFault = Unit {0}
IsUntouched old new (Refused refusal) = new ≡ old
IsUntouched old new NoMemory = new ≡ old
