-- What reading all that a source has left says of the source.
use Rattle.std.specs.Prelude.{◌≡◌, ◌≤◌, ℕ, List, ◌++◌, length, Bool, true, false, Result, Ok, Err}
use Rattle.fs_outside.specs.declared.reading.ReadRefusal.{ReadRefusal}
use Rattle.fs_outside.specs.declared.reading.ReadRefusal.TheVariants as refusals

-- the read ended for a fault of the source
abbrev pub is_read_fault : {V : Type 0} → Result V ReadRefusal → Bool
is_read_fault (Ok bytes) = false
is_read_fault (Err refusals.ReadFault) = true
is_read_fault (Err refusals.TooLong) = false
is_read_fault (Err refusals.NoMemory) = false

-- at most `most` bytes were taken from the front of what was left
pub record TakesUpTo (most : ℕ) (old new : List ℕ) : Type 0 where
  pub bytes : List ℕ
  pub front : old ≡ bytes ++ new
  pub few : length bytes ≤ most
