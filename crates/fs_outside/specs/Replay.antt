-- What a record of calls says of a disk.
use Rattle.std.specs.Prelude.{slice_index, ◌⊎◌, ◌<◌, ◌+◌, ◌≤◌, ℕ, length, ◌≡◌, List, [], ◌∷◌}
use Rattle.fs_outside.specs.declared.memory.tape.Call.{Call}
use Rattle.fs_outside.specs.declared.memory.tape.Call.TheVariants.{Write, Sync}
use Rattle.fs_outside.specs.Past.{Past, Wrote, Synced}

abbrev pub next : Past → Call → Past
next past (Write at count taken) = Wrote past at count taken.items
next past Sync = Synced past

-- what befell a disk, by its calls
abbrev pub replayed : Past → List Call → Past
replayed past [] = past
replayed past (call ∷ calls) = replayed (next past call) calls

-- the places of a write are filled with a byte, and after a sync the bytes are as they read
abbrev pub IsFilled : List ℕ → ℕ → List ℕ → Call → List ℕ → Type 0
IsFilled bytes byte image (Write at count taken) after =
    (length after ≡ length image)
    × ((i : ℕ) → (i < at) ⊎ (at + count ≤ i) → slice_index after i ≡ slice_index image i)
    × ((i : ℕ) → at ≤ i → i < at + count → i < length after → slice_index after i ≡ byte)
IsFilled bytes byte image Sync after = after ≡ bytes
