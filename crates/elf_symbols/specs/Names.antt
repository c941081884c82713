-- Names, and the string tables that hold them, by the ELF specification's chapter "String Table".
use Rattle.std.specs.Prelude.{◌≡◌, ℕ, ◌≤◌, ◌==◌, nat_lt, Bool, if◌then◌else◌, List, length, drop, Option, Some, None}
use Rattle.std.specs.List.{list_any, before_first}

abbrev pub is_zero : ℕ → Bool
is_zero byte = byte == 0

-- the bytes before the first 0
abbrev pub before_zero : List ℕ → List ℕ
before_zero bytes = before_first is_zero bytes

-- the name that begins at a place of a string table, if it begins and ends in it
unfoldable pub name_at : List ℕ → ℕ → Option (List ℕ)
name_at strings place = if list_any is_zero (drop place strings) then Some (before_zero (drop place strings)) else None

-- a 0 byte is at a place or after it exactly if the place is below the end
pub record IsNameEnd (strings : List ℕ) (end : ℕ) : Type 0 where
  pub inside : end ≤ length strings
  pub below : (place : ℕ) → list_any is_zero (drop place strings) ≡ nat_lt place end
