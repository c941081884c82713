-- Two texts, one behind the other.
use Rattle.std.proofs.Common.{◌≡◌, ◌++◌, ℕ, List, Result, Ok, Err}
use Rattle.fs_outside.specs.Writing.{Writes}
use Rattle.fs_outside.proofs.Writes.{part_after, whole_after}

-- a text behind a whole one
pub behind : {T E : Type 0} (tells : Type 0) (old mid new text more : List ℕ) (result : Result T E)
    → (tells → mid ≡ old ++ text) → (tells → Writes mid new more result) → tells → Writes old new (text ++ more) result
behind tells old mid new text more (Ok v) first rest told = whole_after old mid new text more (first told) (rest told)
behind tells old mid new text more (Err e) first rest told = part_after old mid new text more (first told) (rest told)
