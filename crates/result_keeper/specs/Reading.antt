-- How a disk is read: which answers say that it failed, and what its front is.
use Rattle.std.specs.Prelude.{◌≡◌, ℕ, ◌+◌, Bool, true, false, List, length, take, Result, Ok, Err}
use Rattle.fs_model.specs.Case.{CaseData}
use Rattle.fs_model.specs.Card.{card}
use Rattle.result_keeper.specs.declared.reading.ReadRefusal.{ReadRefusal}
use Rattle.result_keeper.specs.declared.reading.ReadRefusal.TheVariants.{DiskFault, NoMemory}

abbrev pub is_read_fault : {T : Type 0} → Result T ReadRefusal → Bool
is_read_fault (Ok value) = false
is_read_fault (Err DiskFault) = true
is_read_fault (Err NoMemory) = false

-- the length of a file and its first `most` bytes, or all
pub record IsFront (most : ℕ) (file bytes : List ℕ) (len : ℕ) : Type 0 where
  pub same_len : len ≡ length file
  pub first : bytes ≡ take most file

-- this many bytes tell whether a file is one of a case: a header, as long a card, and the first gate
abbrev pub front_len : CaseData → ℕ
front_len c = 13 + length (card c) + 1
