-- A window on a file, and the count of a batch.
use Rattle.std.specs.Prelude.{ℕ, ◌≡◌, ◌+◌, ◌-◌, ◌≤◌, List, length, take, drop, Option, Some, None, if◌then◌else◌, nat_lt, slice_get}
use Rattle.fs_model.specs.declared.instructions.Size.TheVariants.{Half}
use Rattle.fs_model.specs.Memory.{number_at}

-- bytes from a place of a file on
pub record WindowData : Type 0 where
  pub start : ℕ
  pub bytes : List ℕ

-- they are those of this file
pub record IsOf (file : List ℕ) (window : WindowData) : Type 0 where
  pub bytes : window.bytes ≡ take (length window.bytes) (drop window.start file)

-- the byte at a place of the file, if the window has it
abbrev pub byte_seen : WindowData → ℕ → Option ℕ
byte_seen window place = if nat_lt place window.start then None else slice_get window.bytes (place - window.start)

-- the number of rows in the two bytes after a gate, if the file has them
abbrev pub IsCount : List ℕ → ℕ → Option ℕ → Type 0
IsCount file gate None = length file ≤ gate + 2
IsCount file gate (Some rows) = (gate + 3 ≤ length file) × (rows ≡ number_at Half file (gate + 1))
